-- The lowest sender of a decided message, by the laws of the least number that passes a test. Assumes nothing.
use mathlib.Core.Path.{◌≡◌}
use mathlib.Core.List.{List}
use mathlib.Core.Bool.{true, false}
use Prim.Native.Nat.{ℕ, ◌≤◌, ◌<◌}
use lib.ListN.{length, get_or}
use Rattle.laws.proofs.Least.{least_is, least_before, least_passes, least_high, least_low}
use Rattle.member.specs.Reasons.{is_decision, lowest_sender}

module _ (row : List ℕ) where
  -- a place up to the row's length that holds a decided message if it is below it, and before which none stands, is the lowest sender's
  pub sender_is : (k : ℕ) → k ≤ length row → ((j : ℕ) → j < k → is_decision (get_or row j 0) ≡ false) → (k < length row → is_decision (get_or row k 0) ≡ true)
      → k ≡ lowest_sender row
  unfolding lowest_sender
  sender_is k high before here = least_is (length row) (λ j. is_decision (get_or row j 0)) k high before here

  -- no decided message stands before it
  pub none_before : (j : ℕ) → j < lowest_sender row → is_decision (get_or row j 0) ≡ false
  unfolding lowest_sender
  none_before j l = least_before (length row) (λ j. is_decision (get_or row j 0)) j l

  -- one stands there if any does
  pub sender_here : lowest_sender row < length row → is_decision (get_or row (lowest_sender row) 0) ≡ true
  unfolding lowest_sender
  sender_here l = least_passes (length row) (λ j. is_decision (get_or row j 0)) l

  pub sender_low : (j : ℕ) → is_decision (get_or row j 0) ≡ true → lowest_sender row ≤ j
  unfolding lowest_sender
  sender_low j e = least_low (length row) (λ j. is_decision (get_or row j 0)) j e

  pub sender_high : lowest_sender row ≤ length row
  unfolding lowest_sender
  sender_high = least_high (length row) (λ j. is_decision (get_or row j 0))
