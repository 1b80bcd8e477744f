-- The bits of a set. A number is below 2 ^ n exactly where nothing is left once its n low bits are shifted out, so such a number names nobody past n; each
-- bit below stands for one process, so the ones are those that are named; and bits add up to a number that has them for its bits. Assumes nothing.
use mathlib.Core.Path.{◌≡◌, refl, sym, ap, ◌∙◌}
use mathlib.Core.Logic.{inl, inr}
use mathlib.Core.Bool.{Bool, true, false, true≢false}
use Prim.Native.Nat.{ℕ, zero, suc, ◌-◌, ◌*◌, ◌/◌, ◌%◌, ◌^◌, ◌≤◌, ◌<◌}
use native.Mathlib.Nat.{div-one, div-eq_of_lt, div-lt_iff_lt-mul, le-div_iff_mul-le, lt_of_lt_of_le, mod-lt, one-mul, pow-suc}
use native.Mathlib.Numerals.{add-one}
use native.Mathlib.Omega.{arith}
use lib.Arith.{lt-one}
use lib.Count.{ones, ones_step}
use lib.Dec.{eqb}
use lib.Pow as Pow
use borrow.Author.Tests.{eqb-true, eqb-false, ltb-true, lt-ltb, le-ltb, not-true}
use Rattle.laws.specs.Below.{bit, count, sum}
use Rattle.laws.proofs.Test.{true_or_false, and_left, and_right}
use Rattle.laws.proofs.Below.{bit_high, bit_same}
use Rattle.laws.proofs.Counting.{split, count_first, count_same, count_full}
use Rattle.laws.proofs.Sums.{sum_same}
use Rattle.laws.proofs.Numerals.{numeral, digit_at, of_its_digits, numeral_below, digit_found}
use Rattle.sets.specs.Sets.{names, up_to, names_others, set_of}

-- Below 2 ^ n, and past it.

pub below_power : (set n : ℕ) → set / 2 ^ n ≤ 0 → up_to n set ≡ true
below_power set n h = lt-ltb set (2 ^ n) (omega (arith, (div-lt_iff_lt-mul {x = set} {y = 1} (Pow.pow_pos n)).0 (omega arith)))

pub past_power : (set n : ℕ) → 0 < set / 2 ^ n → up_to n set ≡ false
past_power set n h = le-ltb set (2 ^ n) (omega (arith, (le-div_iff_mul-le {x = 1} {y = set} (Pow.pow_pos n)).0 (omega arith)))

-- a set of fewer bits than n
pub narrow : (width n set : ℕ) → set < 2 ^ width → width ≤ n → up_to n set ≡ true
narrow width n set short past = lt-ltb set (2 ^ n) (lt_of_lt_of_le short (Pow.pow_mono {i = width} {j = n} past))

-- and one of no more bits than n
pub within_width : (width n set : ℕ) → n ≤ width → up_to n set ≡ true → set < 2 ^ width
within_width width n set small e = lt_of_lt_of_le (ltb-true set (2 ^ n) e) (Pow.pow_mono {i = n} {j = width} small)

pub names_nobody : (n set i : ℕ) → set < 2 ^ n → n ≤ i → names set i ≡ false
unfolding names
names_nobody n set i short past = ap (λ (x : ℕ). eqb (x % 2) 1) (div-eq_of_lt (lt_of_lt_of_le short (Pow.pow_mono past)))

-- The bit at a place.

bit_is : (x : ℕ) → x < 2 → bit (eqb x 1) ≡ x
bit_is x low =
    elim (true_or_false (eqb x 1)) [
      | inl e ↦ rw e (let z = eqb-true x 1 e in omega arith)
      | inr e ↦ rw e (let z = eqb-false x 1 e in omega arith)
    ]

-- as a number
pub named_bit : (set i : ℕ) → bit (names set i) ≡ set / 2 ^ i % 2
unfolding names
named_bit set i = bit_is (set / 2 ^ i % 2) (mod-lt (set / 2 ^ i) (omega arith))

-- the lowest bit stands for the process at place 0
lowest : (set : ℕ) → bit (names set 0) ≡ set % 2
lowest set = named_bit set 0 ∙ ap (λ (x : ℕ). x % 2) (div-one set)

-- and the others stand one place down in the rest
others : (set i : ℕ) → names set (suc i) ≡ names (set / 2) i
unfolding names
others set i = ap (λ (x : ℕ). eqb (x % 2) 1) (ap (λ (k : ℕ). set / 2 ^ k) (omega arith) ∙ sym (Pow.shr-shr set 1 i))

no_ones : ones 0 ≡ 0
unfolding ones
no_ones = refl

pub ones_named : (n set : ℕ) → set < 2 ^ n → ones set ≡ count n (names set)
unfolding count
ones_named zero set h = ap ones (lt-one h) ∙ no_ones
ones_named (suc n) set h =
    let half = ones_named n (set / 2) (Pow.shr_lt n 1 (rw add-one h)) in
    let rest = count_same n (λ i. names set (suc i)) (names (set / 2)) (λ i _. others set i) in
    let low = lowest set in
    let first = count_first n (names set) in
    let digit = ones_step set in
    omega arith

pub ones_of_others : (n set i : ℕ) → set < 2 ^ n → i < n → names set i ≡ false → ones set ≤ n - 1
ones_of_others n set i h l missed =
    let named = ones_named n set h in
    elim (split n (count n (names set))) [
      | inl all ↦ absurd (true≢false (sym (count_full n (names set) all i l) ∙ missed))
      | inr fewer ↦ omega arith
    ]

-- A set and the row of its bits.

-- a bit moves to one of `width` places without loss
pub bit_moved : (width d j : ℕ) → d ≤ 1 → j < width → (d * 2 ^ j) % 2 ^ width ≡ d * 2 ^ j
bit_moved width d j h l = Pow.shl_exact {a = d} 1 j width (omega arith) (omega arith)

-- the digits of a set are its bits
one_bit_digits : (n : ℕ) (digit : ℕ → ℕ) → set_of n digit ≡ numeral 1 n digit
one_bit_digits n digit = sum_same n _ _ (λ j _. ap (λ (k : ℕ). digit j * 2 ^ k) (sym (one-mul j)))

bit_digit : (set j : ℕ) → bit (names set j) ≡ digit_at 1 set j
bit_digit set j = named_bit set j ∙ ap (λ (k : ℕ). set / 2 ^ k % 2) (sym (one-mul j))

pub of_its_bits : (n set : ℕ) → set < 2 ^ n → set_of n (λ j. bit (names set j)) ≡ set
of_its_bits n set h =
    one_bit_digits n (λ j. bit (names set j))
    ∙ sum_same n _ _ (λ j _. ap (λ (d : ℕ). d * 2 ^ (1 * j)) (bit_digit set j))
    ∙ of_its_digits 1 n set (rw (one-mul n) h)

module _ (digit : ℕ → ℕ) where
  pub set_below : (n : ℕ) → ((j : ℕ) → j < n → digit j ≤ 1) → set_of n digit < 2 ^ n
  set_below n h =
      let below = numeral_below 1 digit n (λ j l. let d = h j l in omega arith) in
      let same = one_bit_digits n digit in
      let power : 2 ^ (1 * n) ≡ 2 ^ n = ap (λ (k : ℕ). 2 ^ k) (one-mul n) in
      omega arith

  pub set_bits : (n : ℕ) → ((j : ℕ) → j < n → digit j ≤ 1) → (j : ℕ) → j < n → bit (names (set_of n digit) j) ≡ digit j
  set_bits n h j l =
      bit_digit (set_of n digit) j
      ∙ ap (λ (x : ℕ). digit_at 1 x j) (one_bit_digits n digit)
      ∙ digit_found 1 digit n (λ j l. let d = h j l in omega arith) j l

-- A set of processes 1 to n without the one at place i, both ways.

module _ (n i set : ℕ) where
  pub of_others_below : names_others n i set ≡ true → set < 2 ^ n
  of_others_below e = ltb-true set (2 ^ n) (and_left _ _ e)

  pub of_others_not : names_others n i set ≡ true → names set i ≡ false
  of_others_not e = not-true (names set i) (and_right (up_to n set) _ e)

  pub of_others : set < 2 ^ n → names set i ≡ false → names_others n i set ≡ true
  of_others low missed = rw (lt-ltb set (2 ^ n) low, missed)

-- The set of those below n that pass a test: it is one of n processes, and names just them.

module _ (p : ℕ → Bool) (n : ℕ) where
  pub passing_below : set_of n (λ k. bit (p k)) < 2 ^ n
  passing_below = set_below (λ k. bit (p k)) n (λ k _. bit_high (p k))

  pub passing_named : (j : ℕ) → j < n → names (set_of n (λ k. bit (p k))) j ≡ p j
  passing_named j l = bit_same _ (p j) (set_bits (λ k. bit (p k)) n (λ k _. bit_high (p k)) j l)

-- All processes 1 to n.

everybody_is : (n : ℕ) → set_of n (λ k. bit true) ≡ 2 ^ n - 1
unfolding sum
everybody_is zero = refl
everybody_is (suc n) =
    let before = everybody_is n in
    let some = Pow.pow_pos n in
    let twice : 2 ^ suc n ≡ 2 ^ n * 2 = pow-suc 2 n in
    omega arith

module _ (n : ℕ) where
  pub everybody_up_to : up_to n (2 ^ n - 1) ≡ true
  everybody_up_to = let some = Pow.pow_pos n in lt-ltb (2 ^ n - 1) (2 ^ n) (omega arith)

  pub everybody_named : (i : ℕ) → i < n → names (2 ^ n - 1) i ≡ true
  everybody_named i l = ap (λ (set : ℕ). names set i) (sym (everybody_is n)) ∙ passing_named (λ _. true) n i l
