-- Numbers below n that pass a test: how two counts compare, what a count says of the numbers counted, and finding one that passes.
-- Assumes nothing.
use mathlib.Core.Path.{◌≡◌, refl, sym, ap, ◌∙◌}
use mathlib.Core.Logic.{◌⊎◌, inl, inr}
use mathlib.Core.Bool.{Bool, true, false, not, ◌||◌, true≢false}
use Prim.Native.Nat.{ℕ, zero, suc, ◌+◌, ◌≤◌, ◌<◌, zero-le}
use native.Mathlib.Nat.{not-suc-le-zero}
use native.Mathlib.Numerals.{add-one}
use native.Mathlib.Omega.{arith}
use lib.Dec.{leb}
use borrow.Author.Count.{below_more}
use borrow.Author.Tests.{leb-true, leb-false, not-true, not-false}
use Rattle.laws.specs.Below.{bit, count}
use Rattle.laws.proofs.Test.{true_or_false}

-- a number below n with the property P
abbrev pub Some : ℕ → (ℕ → Type 0) → Type 0
Some n P = (j : ℕ) × (j < n) × P j

pub split : (a b : ℕ) → (a ≤ b) ⊎ (b < a)
split a b = elim (true_or_false (leb a b)) [ inl e ↦ inl (leb-true a b e) | inr e ↦ inr (leb-false a b e) ]

-- a number below n + 1 is one below n, or n
pub below_or_top : (P : ℕ → Type 0) (n : ℕ) → ((j : ℕ) → j < n → P j) → P n → (j : ℕ) → j < suc n → P j
below_or_top P n all top = rw (← add-one n) (below_more P n all top)

pub find : (n : ℕ) (p : ℕ → Bool) → (Some n λ j. p j ≡ true) ⊎ ((j : ℕ) → j < n → p j ≡ false)
find zero p = inr (λ j l. absurd (not-suc-le-zero l))
find (suc n) p =
    elim (true_or_false (p n)) [
      | inl e ↦ inl (n, omega arith, e)
      | inr e ↦
          elim (find n p) [
            | inl s ↦ inl (s.0, (let l : s.0 < n = s.1 in omega arith), s.2)
            | inr f ↦ inr (below_or_top (λ j. p j ≡ false) n f e)
          ]
    ]

bit_le : (a b : Bool) → (a ≡ true → b ≡ true) → bit a ≤ bit b
bit_le true true h = omega arith
bit_le true false h = absurd (true≢false (sym (h refl)))
bit_le false b h = zero-le

bit_not : (b : Bool) → bit b + bit (not b) ≡ 1
bit_not true = refl
bit_not false = refl

pub count_mono : (n : ℕ) (p q : ℕ → Bool) → ((j : ℕ) → j < n → p j ≡ true → q j ≡ true) → count n p ≤ count n q
unfolding count
count_mono zero p q h = zero-le
count_mono (suc n) p q h =
    let a = bit_le (p n) (q n) (h n (omega arith)) in
    let b = count_mono n p q (λ j l. h j (omega arith)) in
    omega arith

-- the lowest number, and the others one place down
pub count_first : (n : ℕ) (p : ℕ → Bool) → count (suc n) p ≡ bit (p 0) + count n (λ j. p (suc j))
unfolding count
count_first zero p = omega arith
count_first (suc n) p = let a = count_first n p in omega arith

pub count_same : (n : ℕ) (p q : ℕ → Bool) → ((j : ℕ) → j < n → p j ≡ q j) → count n p ≡ count n q
count_same n p q h =
    let a = count_mono n p q (λ j l e. sym (h j l) ∙ e) in
    let b = count_mono n q p (λ j l e. h j l ∙ e) in
    omega arith

-- k passes q and not p
pub count_strict : (n : ℕ) (p q : ℕ → Bool) → ((j : ℕ) → j < n → p j ≡ true → q j ≡ true) → (k : ℕ) → k < n → p k ≡ false → q k ≡ true → count n p < count n q
unfolding count
count_strict zero p q h k l e f = absurd (not-suc-le-zero l)
count_strict (suc n) p q h k l e f =
    elim (split n k) [
      | inl a ↦
          let z : k ≡ n = omega arith in
          let x : bit (p n) ≡ 0 = ap bit (rw z at e) in
          let y : bit (q n) ≡ 1 = ap bit (rw z at f) in
          let b = count_mono n p q (λ j l. h j (omega arith)) in
          omega arith
      | inr a ↦
          let b = count_strict n p q (λ j l. h j (omega arith)) k a e f in
          let c = bit_le (p n) (q n) (h n (omega arith)) in
          omega arith
    ]

pub count_not : (n : ℕ) (p : ℕ → Bool) → count n p + count n (λ j. not (p j)) ≡ n
unfolding count
count_not zero p = refl
count_not (suc n) p =
    let a = bit_not (p n) in
    let b = count_not n p in
    omega arith

pub count_of_none : (n : ℕ) (p : ℕ → Bool) → ((j : ℕ) → j < n → p j ≡ false) → count n p ≡ 0
unfolding count
count_of_none zero p h = refl
count_of_none (suc n) p h =
    let a : bit (p n) ≡ 0 = ap bit (h n (omega arith)) in
    let b = count_of_none n p (λ j l. h j (omega arith)) in
    omega arith

pub count_of_all : (n : ℕ) (p : ℕ → Bool) → ((j : ℕ) → j < n → p j ≡ true) → count n p ≡ n
count_of_all n p h =
    let a = count_not n p in
    let b = count_of_none n (λ j. not (p j)) (λ j l. ap not (h j l)) in
    omega arith

pub count_pos : (n : ℕ) (p : ℕ → Bool) (k : ℕ) → k < n → p k ≡ true → 0 < count n p
count_pos n p k l e =
    let h = count_strict n (λ j. false) p (λ j _ e. absurd (true≢false (sym e))) k l refl e in
    omega arith

-- where more than t pass, one does after just t
pub count_after : (n : ℕ) (p : ℕ → Bool) (t : ℕ) → t < count n p → Some n λ i. (p i ≡ true) × (count i p ≡ t)
unfolding count
count_after zero p t h = absurd (omega arith)
count_after (suc n) p t h =
    elim (split (count n p) t) [
      | inl l ↦
          elim (true_or_false (p n)) [
            | inl e ↦ let b : bit (p n) ≡ 1 = ap bit e in (n, omega arith, (e, omega arith))
            | inr e ↦ let b : bit (p n) ≡ 0 = ap bit e in absurd (omega arith)
          ]
      | inr l ↦ let s = count_after n p t l in (s.0, (let below : s.0 < n = s.1 in omega arith), s.2)
    ]

pub count_some : (n : ℕ) (p : ℕ → Bool) → 0 < count n p → Some n λ j. p j ≡ true
count_some n p h = let s = count_after n p 0 h in (s.0, s.1, s.2.0)

pub count_zero : (n : ℕ) (p : ℕ → Bool) → count n p ≡ 0 → (j : ℕ) → j < n → p j ≡ false
count_zero n p h j l = elim (true_or_false (p j)) [ inl e ↦ absurd (let z = count_pos n p j l e in omega arith) | inr e ↦ e ]

pub count_full : (n : ℕ) (p : ℕ → Bool) → n ≤ count n p → (j : ℕ) → j < n → p j ≡ true
count_full n p h j l =
    let a = count_not n p in
    not-false (p j) (count_zero n (λ j. not (p j)) (omega arith) j l)

pub count_short : (n : ℕ) (p : ℕ → Bool) → count n p < n → Some n λ j. p j ≡ false
count_short n p h =
    let a = count_not n p in
    let s = count_some n (λ j. not (p j)) (omega arith) in
    (s.0, s.1, not-true (p s.0) s.2)

bit_or : (a b : Bool) → bit a + bit b ≤ 1 → bit (a || b) ≡ bit a + bit b
bit_or true true h = absurd (omega arith)
bit_or true false h = refl
bit_or false b h = omega arith

-- two tests of which no number passes both
pub count_either : (n : ℕ) (p q : ℕ → Bool) → ((j : ℕ) → bit (p j) + bit (q j) ≤ 1) → count n (λ j. p j || q j) ≡ count n p + count n q
unfolding count
count_either zero p q h = refl
count_either (suc n) p q h =
    let a = bit_or (p n) (q n) (h n) in
    let b = count_either n p q h in
    omega arith

-- as many of more numbers, or more
pub count_longer : (i n : ℕ) (p : ℕ → Bool) → i ≤ n → count i p ≤ count n p
unfolding count
count_longer i zero p h = let z : i ≡ 0 = omega arith in rw z (omega arith)
count_longer i (suc n) p h =
    elim (split i n) [
      | inl l ↦ let a = count_longer i n p l in omega arith
      | inr l ↦ let z : i ≡ suc n = omega arith in rw z (omega arith)
    ]
