-- The silent set of a row: it is a set of as many processes as the row is long, names just those that sent no estimate, and so has as many members as
-- estimates are missing. And what a row tells that sets it. Assumes nothing.
use mathlib.Core.Path.{◌≡◌}
use mathlib.Core.Bool.{Bool, true, false, not}
use mathlib.Core.List.{List}
use Prim.Native.Nat.{ℕ, ◌-◌, ◌^◌, ◌<◌}
use native.Mathlib.Omega.{arith}
use borrow.Author.Tests.{eqb-true, not-true}
use lib.Count.{ones}
use lib.Dec.{leb, eqb}
use lib.ListN.{length, get_or}
use Rattle.laws.specs.Below.{count}
use Rattle.laws.proofs.Test.{and_left, and_right}
use Rattle.laws.proofs.Counting.{count_same, count_either, count_not}
use Rattle.sets.specs.Sets.{names}
use Rattle.sets.proofs.Bits.{ones_named, passing_below, passing_named}
use Rattle.member.specs.declared.Member.{Member}
use Rattle.member.specs.declared.Tally.{Tally}
use Rattle.member.specs.State.{undecided}
use Rattle.member.specs.Hearing.{codes, tally_of, is_estimate, estimates, told, sets_silent, silent_in, silent_after}
use Rattle.member.proofs.Counts.{one_code}

module _ (row : List ℕ) where
  -- the process at place j sent no estimate
  abbrev sent_none : ℕ → Bool
  sent_none j = not (is_estimate (get_or row j 0))

  pub silent_names : (j : ℕ) → j < length row → names (silent_in row) j ≡ sent_none j
  silent_names = passing_named sent_none (length row)

  pub silent_below : silent_in row < 2 ^ length row
  silent_below = passing_below sent_none (length row)

  -- the estimates of a row, by its counts and one by one
  pub estimates_are : estimates (tally_of row) ≡ count (length row) (λ j. is_estimate (get_or row j 0))
  unfolding codes
  estimates_are =
      let e = count_either (length row) (λ j. eqb (get_or row j 0) 1) (λ j. eqb (get_or row j 0) 2) (λ j. one_code (get_or row j 0)) in
      omega arith

  pub silent_ones : ones (silent_in row) ≡ length row - estimates (tally_of row)
  silent_ones =
      let named = ones_named (length row) (silent_in row) silent_below in
      let none = count_same (length row) (names (silent_in row)) sent_none silent_names in
      let all = count_not (length row) (λ j. is_estimate (get_or row j 0)) in
      let heard = estimates_are in
      omega arith

-- Which rows set the silent set.
pub record Sets (m : Member) (k : Tally) : Type 0 where
  pub undecided_before : m.decided ≡ 0
  pub untold : told k ≡ false

pub sets : (m : Member) (k : Tally) → sets_silent m k ≡ true → Sets m k
unfolding sets_silent
sets m k e =
    let later = and_right (undecided m) _ e in
    record {
      undecided_before = eqb-true m.decided 0 (and_left (undecided m) _ e);
      untold = not-true (told k) (and_right (leb 2 m.round) _ later);
    }

-- What it is after a row.
module _ (m : Member) (row : List ℕ) where
  pub silent_is : sets_silent m (tally_of row) ≡ true → silent_after m row ≡ silent_in row
  unfolding silent_after
  silent_is e = rw e

  pub silent_left : sets_silent m (tally_of row) ≡ false → silent_after m row ≡ m.silent
  unfolding silent_after
  silent_left e = rw e
