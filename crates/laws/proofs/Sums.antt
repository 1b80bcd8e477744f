-- Bounds of a sum below n from bounds of its terms. Assumes nothing.
use mathlib.Core.Path.{◌≡◌, refl, sym, ap, ap₂}
use mathlib.Core.Bool.{Bool, false}
use mathlib.Core.Logic.{inl, inr}
use Prim.Native.Nat.{ℕ, zero, suc, ◌+◌, ◌*◌, ◌≤◌, ◌<◌, min, zero-le}
use native.Mathlib.Nat.{not-suc-le-zero, mul-zero, mul-add}
use native.Mathlib.Omega.{arith}
use Rattle.laws.specs.Below.{sum, bit, count}
use Rattle.laws.proofs.Counting.{split, below_or_top}

pub sum_zero : (n : ℕ) (f : ℕ → ℕ) → ((i : ℕ) → i < n → f i ≡ 0) → sum n f ≡ 0
unfolding sum
sum_zero zero f h = refl
sum_zero (suc n) f h =
    let a = sum_zero n f (λ i l. h i (omega arith)) in
    let b = h n (omega arith) in
    omega arith

pub sum_same : (n : ℕ) (f g : ℕ → ℕ) → ((i : ℕ) → i < n → f i ≡ g i) → sum n f ≡ sum n g
unfolding sum
sum_same zero f g h = refl
sum_same (suc n) f g h = ap₂ ◌+◌ (sum_same n f g (λ i l. h i (omega arith))) (h n (omega arith))

-- a sum of 0 has no term but 0
pub sum_none : (n : ℕ) (f : ℕ → ℕ) → sum n f ≡ 0 → (i : ℕ) → i < n → f i ≡ 0
unfolding sum
sum_none zero f z i l = absurd (not-suc-le-zero l)
sum_none (suc n) f z i l = below_or_top (λ j. f j ≡ 0) n (sum_none n f (omega arith)) (omega arith) i l

-- terms of 0 from k on add nothing
pub sum_ends : (n k : ℕ) (f : ℕ → ℕ) → k ≤ n → ((i : ℕ) → k ≤ i → f i ≡ 0) → sum n f ≡ sum k f
unfolding sum
sum_ends zero k f l z = let e : 0 ≡ k = omega arith in ap (λ (m : ℕ). sum m f) e
sum_ends (suc n) k f l z =
    elim (split k n) [
      | inl a ↦ let e = sum_ends n k f a z in let y = z n a in omega arith
      | inr a ↦ let e : suc n ≡ k = omega arith in ap (λ (m : ℕ). sum m f) e
    ]

pub sum_high : (n x : ℕ) (f : ℕ → ℕ) → ((i : ℕ) → i < n → f i ≤ x) → sum n f ≤ x * n
unfolding sum
sum_high zero x f h = zero-le
sum_high (suc n) x f h =
    let a = sum_high n x f (λ i l. h i (omega arith)) in
    let b = h n (omega arith) in
    omega arith

-- terms of at most x, and none from b on
pub sum_until : (n b x : ℕ) (f : ℕ → ℕ) → ((i : ℕ) → i < n → f i ≤ x) → ((i : ℕ) → i < n → b ≤ i → f i ≡ 0) → sum n f ≤ x * min b n
unfolding sum
sum_until zero b x f h z = zero-le
sum_until (suc n) b x f h z =
    let a = sum_until n b x f (λ i l. h i (omega arith)) (λ i l. z i (omega arith)) in
    elim (split b n) [
      | inl c ↦
          let e : min b (suc n) ≡ b = omega arith in
          let e2 : min b n ≡ b = omega arith in
          rw e (let a2 = rw e2 at a in let q = z n (omega arith) c in omega arith)
      | inr c ↦
          let e : min b (suc n) ≡ suc n = omega arith in
          let e2 : min b n ≡ n = omega arith in
          rw e (let a2 = rw e2 at a in let q = h n (omega arith) in omega arith)
    ]

-- a term that is k wherever a test holds, and another term besides
pub sum_parts : (k n : ℕ) (p : ℕ → Bool) (g : ℕ → ℕ) → sum n (λ i. k * bit (p i) + g i) ≡ k * count n p + sum n g
unfolding sum count
sum_parts k zero p g = sym (ap (λ (x : ℕ). x + 0) (mul-zero k))
sum_parts k (suc n) p g =
    let a = sum_parts k n p g in
    let b = mul-add k (count n p) (bit (p n)) in
    omega arith

-- a count has no more past the places where the test holds
pub count_ends : (n k : ℕ) (p : ℕ → Bool) → k ≤ n → ((i : ℕ) → k ≤ i → p i ≡ false) → count n p ≡ count k p
unfolding count
count_ends n k p l past = sum_ends n k (λ i. bit (p i)) l (λ i b. ap bit (past i b))

-- at most `most` for each place, and one more for each of two tests that it passes
pub sum_within : (n most : ℕ) (f : ℕ → ℕ) (p q : ℕ → Bool) → ((i : ℕ) → i < n → f i ≤ most + bit (p i) + bit (q i))
    → sum n f ≤ most * n + count n p + count n q
unfolding sum count
sum_within zero most f p q h = omega arith
sum_within (suc n) most f p q h =
    let before = sum_within n most f p q (λ i l. h i (omega arith)) in
    let last = h n (omega arith) in
    omega arith
