-- What a loop over 0, 1, .., n - 1 leaves: one number more, the end of the loop, and the largest of f 0, .., f (n - 1). Assumes nothing.
use mathlib.Core.Path.{◌≡◌, refl, ap, ◌∙◌}
use mathlib.Core.Logic.{◌⊎◌, inl, inr}
use Prim.Native.Nat.{ℕ, zero, suc, ◌+◌, ◌≤◌, ◌<◌, max}
use native.Mathlib.Nat.{not-suc-le-zero}
use native.Mathlib.Numerals.{add-one}
use native.Mathlib.Omega.{arith}
use Rattle.laws.specs.Below.{fold}
use Rattle.laws.proofs.Counting.{Some, split, below_or_top}

-- A loop's variable x holds what the numbers passed have made of a.
module _ {A : Type 0} (step : ℕ → A → A) (a : A) where
  pub fold_none : a ≡ fold 0 step a
  unfolding fold
  fold_none = refl

  pub fold_step : (i : ℕ) (x y : A) → x ≡ fold i step a → y ≡ step i x → y ≡ fold (i + 1) step a
  unfolding fold
  fold_step i x y e h = rw add-one (h ∙ ap (step i) e)

  pub fold_end : (i n : ℕ) (x : A) → x ≡ fold i step a → i ≤ n → n ≤ i → x ≡ fold n step a
  fold_end i n x e p q = e ∙ ap (λ (j : ℕ). fold j step a) (omega arith)

module _ (f : ℕ → ℕ) where
  abbrev largest_of : ℕ → ℕ
  largest_of n = fold n (λ i found. max found (f i)) 0

  pub largest_high : (n i : ℕ) → i < n → f i ≤ largest_of n
  unfolding fold
  largest_high zero i l = absurd (not-suc-le-zero l)
  largest_high (suc n) i l =
      below_or_top (λ j. f j ≤ max (largest_of n) (f n)) n (λ j jl. let h = largest_high n j jl in omega arith) (omega arith) i l

  pub largest_is : (n : ℕ) → (largest_of n ≡ 0) ⊎ (Some n λ i. largest_of n ≡ f i)
  unfolding fold
  largest_is zero = inl refl
  largest_is (suc n) =
      elim (split (largest_of n) (f n)) [
        | inl a ↦ inr (n, omega arith, omega arith)
        | inr a ↦
            let e : max (largest_of n) (f n) ≡ largest_of n = omega arith in
            elim (largest_is n) [
              | inl z ↦ inl (e ∙ z)
              | inr h ↦ inr (h.0, (let l : h.0 < n = h.1 in omega arith), e ∙ h.2)
            ]
      ]
