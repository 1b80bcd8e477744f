-- Sums and counts: one number more, the end of a loop, and bounds. Assumes nothing.
use mathlib.Core.Path.{◌≡◌, refl, ◌∙◌, ap}
use mathlib.Core.Bool.{Bool, true, false}
use Prim.Native.Nat.{ℕ, zero, suc, ◌+◌, ◌≤◌, zero-le}
use native.Mathlib.Numerals.{add-one}
use native.Mathlib.Omega.{arith}
use Rattle.laws.specs.Below.{sum, bit, count}

-- A loop's variable k holds the sum, or the count, of the numbers passed.

pub sum_start : (f : ℕ → ℕ) → 0 ≡ sum 0 f
unfolding sum
sum_start f = refl

pub sum_step : (i : ℕ) (f : ℕ → ℕ) (k x : ℕ) → k ≡ sum i f → x ≡ f i → k + x ≡ sum (i + 1) f
unfolding sum
sum_step i f k x p q = rw add-one cc

pub sum_end : (i n : ℕ) (f : ℕ → ℕ) (k : ℕ) → k ≡ sum i f → i ≤ n → n ≤ i → k ≡ sum n f
sum_end i n f k e p q = e ∙ ap (λ (j : ℕ). sum j f) (omega arith)

pub count_none : (p : ℕ → Bool) → 0 ≡ count 0 p
unfolding count
count_none p = refl

pub count_step : (i : ℕ) (p : ℕ → Bool) (k x : ℕ) → k ≡ count i p → x ≡ bit (p i) → k + x ≡ count (i + 1) p
unfolding count
count_step i p k x e h = sum_step i (λ i. bit (p i)) k x e h

pub count_end : (i n : ℕ) (p : ℕ → Bool) (k : ℕ) → k ≡ count i p → i ≤ n → n ≤ i → k ≡ count n p
unfolding count
count_end i n p k e a b = sum_end i n (λ i. bit (p i)) k e a b

-- two tests of which no number passes both
pub count_apart : (n : ℕ) (p q : ℕ → Bool) → ((i : ℕ) → bit (p i) + bit (q i) ≤ 1) → count n p + count n q ≤ n
unfolding count
count_apart zero p q h = zero-le
count_apart (suc n) p q h =
    let a = count_apart n p q h in
    let b = h n in
    omega arith

pub bit_high : (b : Bool) → bit b ≤ 1
bit_high true = omega arith
bit_high false = omega arith

-- a bit tells its test
pub bit_same : (a b : Bool) → bit a ≡ bit b → a ≡ b
bit_same true true e = refl
bit_same true false e = absurd (omega arith)
bit_same false true e = absurd (omega arith)
bit_same false false e = refl

pub count_high : (n : ℕ) (p : ℕ → Bool) → count n p ≤ n
unfolding count
count_high zero p = zero-le
count_high (suc n) p =
    let a = count_high n p in
    let b = bit_high (p n) in
    omega arith

-- a loop's variable that counts has room for one number more
pub count_room : (i : ℕ) (p : ℕ → Bool) (k x : ℕ) → k ≡ count i p → x ≡ bit (p i) → k + x ≤ i + 1
count_room i p k x e h =
    let y = count_high i p in
    let z = bit_high (p i) in
    omega arith
