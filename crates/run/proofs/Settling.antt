-- The settling round has too few crashes for a process to complete it undecided, or it is t + 1, the last; and a round q before it has enough: at least
-- q − 1 by q if q is from 2 to t − 1, and at least t by t if q is t. So it is the least of its kind. This is what its definition comes to, of any t
-- and of any crashes. Assumes nothing.
use mathlib.Core.Path.{◌≡◌, ◌∙◌}
use mathlib.Core.Logic.{inl, inr}
use Prim.Native.Nat.{ℕ, ◌+◌, ◌-◌, ◌≤◌, ◌<◌}
use native.Mathlib.Omega.{arith}
use lib.Dec.{ltb}
use borrow.Author.Tests.{ltb-true, ltb-false}
use Rattle.laws.proofs.Test.{true_or_false, cond_true, cond_false}
use Rattle.laws.proofs.Least.{least_before, least_passes}
use Rattle.laws.proofs.Counting.{split}
use Rattle.run.specs.CrashesSoFar.{few_by, early_round, settling_round}

module _ (t : ℕ) (crashed : ℕ → ℕ) where
  -- which of the three rounds it is, and why
  data Settling : Type 0 where
    is_early : early_round t crashed < t → settling_round t crashed ≡ early_round t crashed → Settling
    is_t : t ≤ early_round t crashed → crashed t < t → settling_round t crashed ≡ t → Settling
    is_last : t ≤ early_round t crashed → t ≤ crashed t → settling_round t crashed ≡ t + 1 → Settling

  settling : Settling
  unfolding settling_round
  settling =
      elim (true_or_false (ltb (early_round t crashed) t)) [
        | inl e ↦ is_early (ltb-true _ _ e) (cond_true _ _ _ e)
        | inr e ↦
            let past = ltb-false _ _ e in
            elim (true_or_false (ltb (crashed t) t)) [
              | inl f ↦ is_t past (ltb-true (crashed t) t f) (cond_false _ _ _ e ∙ cond_true _ _ _ f)
              | inr f ↦ is_last past (ltb-false (crashed t) t f) (cond_false _ _ _ e ∙ cond_false _ _ _ f)
            ]
      ]

  -- none of the three is above t + 1
  pub settling_high : settling_round t crashed ≤ t + 1
  settling_high = elim settling [ is_early l e ↦ omega arith | is_t _ _ e ↦ omega arith | is_last _ _ e ↦ omega arith ]

  -- the early round is the least with fewer than q − 1 crashes by q, so a round before it has not fewer
  before_early : (q : ℕ) → 2 ≤ q → q < early_round t crashed → q - 1 ≤ crashed q
  unfolding early_round
  before_early q low l =
      let e : 2 + (q - 2) ≡ q = omega arith in
      let f = least_before (t - 2) (λ k. few_by t crashed (2 + k)) (q - 2) (omega arith) in
      let h = ltb-false (crashed q) _ (rw e at f) in
      omega arith

  -- a round from 2 to t − 1 that is before the settling round is before the early round too
  pub settling_early : (q : ℕ) → 2 ≤ q → q ≤ t - 1 → q < settling_round t crashed → q - 1 ≤ crashed q
  settling_early q low high l =
      before_early q low (elim settling [ is_early _ e ↦ omega arith | is_t past _ e ↦ omega arith | is_last past _ e ↦ omega arith ])

  -- only t + 1 is above t, and it is the settling round only where there are t crashes by t
  pub settling_late : t < settling_round t crashed → t ≤ crashed t
  settling_late l = elim settling [ is_early b e ↦ absurd (omega arith) | is_t _ _ e ↦ absurd (omega arith) | is_last _ many _ ↦ many ]

  -- round r has too few crashes for a process to complete it undecided, since r is from 2 to t − 1 with fewer than r − 1 by r, or it is t with fewer
  -- than t by t; or it is the last
  pub record TooFew (r : ℕ) : Type 0 where
    pub low : r < t → 2 ≤ r
    pub early : r < t → crashed r < r - 1
    pub at_t : r ≡ t → crashed t < t
    pub high : r ≤ t + 1

  -- the early round has too few, since the least one passes the test where it is below t
  at_early : early_round t crashed < t → (2 ≤ early_round t crashed) × (crashed (early_round t crashed) < early_round t crashed - 1)
  unfolding early_round
  at_early l =
      let few = least_passes (t - 2) (λ k. few_by t crashed (2 + k)) (omega arith) in
      (omega arith, ltb-true (crashed (early_round t crashed)) (early_round t crashed - 1) few)

  pub settling_too_few : TooFew (settling_round t crashed)
  settling_too_few =
      elim settling [
        | is_early l e ↦
            let k = at_early l in
            rw e (record { low = λ b. k.0; early = λ b. k.1; at_t = λ b. absurd (omega arith); high = omega arith })
        | is_t past few e ↦ record { low = λ b. absurd (omega arith); early = λ b. absurd (omega arith); at_t = λ b. few; high = omega arith }
        | is_last past many e ↦
            record { low = λ b. absurd (omega arith); early = λ b. absurd (omega arith); at_t = λ b. absurd (omega arith); high = omega arith }
      ]

  -- and it is the least round that does
  pub settling_least : (r : ℕ) → TooFew r → settling_round t crashed ≤ r
  settling_least r few =
      elim (split (settling_round t crashed) r) [
        | inl h ↦ h
        | inr l ↦
            let high = settling_high in
            absurd (elim (split t r) [
              | inr before ↦ let y = settling_early r (few.low before) (omega arith) l in let z = few.early before in omega arith
              | inl at ↦ let e : r ≡ t = omega arith in let y = settling_late (omega arith) in let z = few.at_t e in omega arith
            ])
      ]
