-- Codes that are estimates. Assumes nothing.
use mathlib.Core.Path.{◌≡◌, refl, sym, ◌∙◌}
use mathlib.Core.Logic.{inl, inr, ◌≢◌}
use mathlib.Core.Bool.{true, false, true≢false}
use Prim.Native.Nat.{ℕ, ◌≤◌}
use native.Mathlib.Nat.{eq-zero-or-pos}
use native.Mathlib.Omega.{arith}
use borrow.Author.Tests.{ne_eqb}
use Rattle.laws.proofs.Counting.{split}
use Rattle.member.specs.Hearing.{is_estimate}

pub is_estimate_lem : (x : ℕ) → 1 ≤ x → x ≤ 2 → is_estimate x ≡ true
is_estimate_lem x lo hi =
    elim (split x 1) [
      | inl a ↦ let e : x ≡ 1 = omega arith in rw e refl
      | inr a ↦ let e : x ≡ 2 = omega arith in rw e refl
    ]

pub estimate_heard : (x : ℕ) → is_estimate x ≡ true → 1 ≤ x
estimate_heard x h = elim (eq-zero-or-pos x) [ inl z ↦ absurd (true≢false (sym h ∙ rw z refl)) | inr p ↦ p ]

pub not_estimate : (x : ℕ) → x ≤ 2 → is_estimate x ≡ false → x ≡ 0
not_estimate x l h = elim (eq-zero-or-pos x) [ inl z ↦ z | inr p ↦ absurd (true≢false (sym (is_estimate_lem x p l) ∙ h)) ]

pub estimate_not_0 : (x : ℕ) → is_estimate x ≡ true → x ≢ 1 → x ≡ 2
estimate_not_0 x h ne =
    elim (split x 2) [
      | inl a ↦ let lo = estimate_heard x h in omega arith
      | inr a ↦ absurd (true≢false (sym h ∙ beyond x a))
    ]
  where
    beyond : (x : ℕ) → 3 ≤ x → is_estimate x ≡ false
    beyond x a = rw (ne_eqb x 1 (λ e. omega arith), ne_eqb x 2 (λ e. omega arith)) refl
