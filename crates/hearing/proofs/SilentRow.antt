-- The silent set of a row of codes without a decided message: the codes are 0, 1 and 2, so it is the set of the places at which 0 stands; and it is empty
-- where every code is an estimate. Assumes nothing.
use mathlib.Core.Path.{◌≡◌, refl, sym, ap, ◌∙◌}
use mathlib.Core.Logic.{inl, inr}
use mathlib.Core.List.{List}
use mathlib.Core.Bool.{false, not}
use Prim.Native.Nat.{ℕ, ◌*◌, ◌^◌, ◌≤◌, ◌<◌}
use native.Mathlib.Nat.{eq-zero-or-pos, zero-mul}
use native.Mathlib.Omega.{arith}
use borrow.Author.Tests.{eqb-false, ne_eqb, ltb-false}
use lib.Dec.{eqb, ltb}
use lib.ListN.{length, get_or}
use Rattle.laws.specs.Below.{bit, count}
use Rattle.laws.proofs.Test.{or_false}
use Rattle.laws.proofs.Counting.{count_zero, count_full}
use Rattle.laws.proofs.Sums.{sum_zero, sum_same}
use Rattle.sets.specs.Sets.{set_of}
use Rattle.member.specs.declared.Tally.{Tally}
use Rattle.member.specs.Hearing.{codes, tally_of, is_estimate, estimates, told, silent_in}
use Rattle.member.proofs.Codes.{is_estimate_lem}
use Rattle.member.proofs.Silent.{estimates_are}

-- a code of 0, 1 or 2 that is no estimate is 0
no_estimate : (x : ℕ) → x ≤ 2 → eqb x 0 ≡ not (is_estimate x)
no_estimate x l =
    elim (eq-zero-or-pos x) [
      | inl z ↦ rw z refl
      | inr p ↦ rw (ne_eqb x 0 (λ z. omega arith), is_estimate_lem x p l) refl
    ]

module _ (row : List ℕ) (k : Tally) (counted : k ≡ tally_of row) where
  pub plain_codes : k.others ≡ 0 → told k ≡ false → (j : ℕ) → j < length row → get_or row j 0 ≤ 2
  unfolding told codes
  plain_codes all none j l =
      let quiet = or_false (ltb 0 k.aborts) (ltb 0 k.commits) none in
      let aborts = ltb-false 0 k.aborts quiet.0 in
      let commits = ltb-false 0 k.commits quiet.1 in
      let no_other = ltb-false 4 (get_or row j 0) (count_zero (length row) (λ i. ltb 4 (get_or row i 0)) (sym (ap (λ (x : Tally). x.others) counted) ∙ all) j l) in
      let no_abort = eqb-false (get_or row j 0) 3 (count_zero (length row) (λ i. eqb (get_or row i 0) 3) (sym (ap (λ (x : Tally). x.aborts) counted) ∙ omega arith) j l) in
      let no-commit = eqb-false (get_or row j 0) 4 (count_zero (length row) (λ i. eqb (get_or row i 0) 4) (sym (ap (λ (x : Tally). x.commits) counted) ∙ omega arith) j l) in
      omega arith

  pub silent_nobody : estimates k ≡ length row → 0 ≡ silent_in row
  silent_nobody full =
      let heard : count (length row) (λ j. is_estimate (get_or row j 0)) ≡ length row = sym (estimates_are row) ∙ ap estimates (sym counted) ∙ full in
      sym
      (sum_zero (length row) (λ j. bit (not (is_estimate (get_or row j 0))) * 2 ^ j)
      (λ j l. ap (λ b. bit (not b) * 2 ^ j) (count_full (length row) (λ j. is_estimate (get_or row j 0)) (omega arith) j l) ∙ zero-mul (2 ^ j)))

pub silent_zeros : (row : List ℕ) → ((j : ℕ) → j < length row → get_or row j 0 ≤ 2) → set_of (length row) (λ j. bit (eqb (get_or row j 0) 0)) ≡ silent_in row
silent_zeros row low = sum_same (length row) _ _ (λ j l. ap (λ b. bit b * 2 ^ j) (no_estimate (get_or row j 0) (low j l)))
