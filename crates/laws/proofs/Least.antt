-- The least number below n that passes a test, or n: the one that passes if it is below n, and before which none does. Assumes nothing.
use mathlib.Core.Path.{◌≡◌, sym, ap, ◌∙◌}
use mathlib.Core.Logic.{inl, inr}
use mathlib.Core.Bool.{Bool, true, false, true≢false}
use Prim.Native.Nat.{ℕ, zero, suc, ◌≤◌, ◌<◌}
use native.Mathlib.Omega.{arith}
use Rattle.laws.specs.Below.{least}
use Rattle.laws.proofs.Test.{true_or_false, cond_true, cond_false}
use Rattle.laws.proofs.Counting.{split}

least_here : (n : ℕ) (p : ℕ → Bool) → p 0 ≡ true → least (suc n) p ≡ 0
unfolding least
least_here n p e = cond_true (p 0) 0 _ e

least_later : (n : ℕ) (p : ℕ → Bool) → p 0 ≡ false → least (suc n) p ≡ suc (least n (λ i. p (suc i)))
unfolding least
least_later n p e = cond_false (p 0) 0 _ e

-- a number up to n that passes the test if it is below n, and before which none does, is the least
pub least_is : (n : ℕ) (p : ℕ → Bool) (k : ℕ) → k ≤ n → ((i : ℕ) → i < k → p i ≡ false) → (k < n → p k ≡ true) → k ≡ least n p
unfolding least
least_is zero p k h before at = omega arith
least_is (suc n) p zero h before at = sym (least_here n p (at (omega arith)))
least_is (suc n) p (suc k) h before at =
    ap suc (least_is n (λ i. p (suc i)) k (omega arith) (λ i l. before (suc i) (omega arith)) (λ l. at (omega arith)))
    ∙ sym (least_later n p (before 0 (omega arith)))

-- no number before it passes the test
pub least_before : (n : ℕ) (p : ℕ → Bool) (k : ℕ) → k < least n p → p k ≡ false
unfolding least
least_before zero p k l = absurd (omega arith)
least_before (suc n) p zero l = elim (true_or_false (p 0)) [ inl e ↦ absurd (let here = least_here n p e in omega arith) | inr e ↦ e ]
least_before (suc n) p (suc k) l =
    elim (true_or_false (p 0)) [
      | inl e ↦ absurd (let here = least_here n p e in omega arith)
      | inr e ↦ let later = least_later n p e in least_before n (λ i. p (suc i)) k (omega arith)
    ]

-- it passes the test where it is below n
pub least_passes : (n : ℕ) (p : ℕ → Bool) → least n p < n → p (least n p) ≡ true
unfolding least
least_passes zero p l = absurd (omega arith)
least_passes (suc n) p l =
    elim (true_or_false (p 0)) [
      | inl e ↦ rw (least_here n p e) e
      | inr e ↦ let later = least_later n p e in rw later (least_passes n (λ i. p (suc i)) (omega arith))
    ]

pub least_high : (n : ℕ) (p : ℕ → Bool) → least n p ≤ n
unfolding least
least_high zero p = omega arith
least_high (suc n) p =
    elim (true_or_false (p 0)) [
      | inl e ↦ let here = least_here n p e in omega arith
      | inr e ↦ let later = least_later n p e in let high = least_high n (λ i. p (suc i)) in omega arith
    ]

-- it is at most any number that passes
pub least_low : (n : ℕ) (p : ℕ → Bool) (k : ℕ) → p k ≡ true → least n p ≤ k
least_low n p k e = elim (split (least n p) k) [ inl h ↦ h | inr h ↦ absurd (true≢false (sym e ∙ least_before n p k h)) ]

-- it goes by the tests of the numbers below n alone
pub least_same : (n : ℕ) (p q : ℕ → Bool) → ((i : ℕ) → i < n → p i ≡ q i) → least n p ≡ least n q
least_same n p q same =
    let high = least_high n p in
    least_is n q (least n p) high (λ i l. sym (same i (omega arith)) ∙ least_before n p i l) (λ l. sym (same (least n p) l) ∙ least_passes n p l)
