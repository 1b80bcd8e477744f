-- The digits of a number: which they are where there are one or two, how many there are, that no letter of a number is an LF, since the letters start at byte 48,
-- and that what they are the digits of can be read back. Assumes nothing.
use mathlib.Core.Path.{◌≡◌, refl, sym, ap, ◌∙◌}
use mathlib.Core.Logic.{inl, inr}
use mathlib.Core.List.{List, [], ◌∷◌, ◌++◌, append_assoc}
use mathlib.Core.Bool.{cond, true≢false}
use Prim.Native.Nat.{ℕ, zero, suc, ◌+◌, ◌-◌, ◌*◌, ◌/◌, ◌%◌, ◌^◌, ◌≤◌, ◌<◌}
use native.Mathlib.Nat.{pow-suc, pow-le-pow_right}
use native.Mathlib.Omega.{arith}
use borrow.Author.Tests.{eq-eqb, ne_eqb, lt-ltb, le-ltb}
use lib.ListN.{length, length-append}
use lib.Dec.{ltb, eqb}
use Rattle.laws.specs.Below.{least}
use Rattle.laws.proofs.Test.{cond_true, cond_false}
use Rattle.laws.proofs.Counting.{split}
use Rattle.laws.proofs.Least.{least_is, least_before}
use Rattle.lines.specs.Lines.{after_line}
use Rattle.lines.proofs.Endings.{after_byte}
use Rattle.fields.specs.Decimal.{letter, decimal_in, decimal, digit_count}
use Rattle.fields.specs.Facts.{DigitCounts}

pub one_place : (steps x : ℕ) → x < 10 → decimal_in steps x ≡ letter x ∷ []
unfolding decimal_in
one_place zero x h = refl
one_place (suc steps) x h = cond_true (ltb x 10) (letter x ∷ []) _ (lt-ltb x 10 h)

two_places : (steps x : ℕ) → 0 < steps → 10 ≤ x → x ≤ 99 → decimal_in steps x ≡ letter (x / 10) ∷ letter (x % 10) ∷ []
unfolding decimal_in
two_places zero x some low high = absurd (omega arith)
two_places (suc steps) x some low high =
    cond_false (ltb x 10) (letter x ∷ []) _ (le-ltb x 10 low)
    ∙ ap (λ (l : List ℕ). l ++ (letter (x % 10) ∷ [])) (one_place steps (x / 10) (omega arith))

pub one_digit : (x : ℕ) → x < 10 → decimal x ≡ letter x ∷ []
unfolding decimal
one_digit x h = one_place x x h

pub two_digits : (x : ℕ) → 10 ≤ x → x ≤ 99 → decimal x ≡ letter (x / 10) ∷ letter (x % 10) ∷ []
unfolding decimal
two_digits x low high = two_places x x (omega arith) low high

-- The number of digits: a number below 10 ^ (k + 1), and not below 10 ^ k where k is not 0, has k + 1 of them, and is written in so many.
pub digit_count_is : (k x : ℕ) → x < 10 ^ suc k → (0 < k → 10 ^ k ≤ x) → digit_count x ≡ suc k
unfolding digit_count
digit_count_is k x high low =
    ap suc (sym (least_is x (λ j. ltb x (10 ^ suc j)) k (few k low)
    (λ i l.
    let before : 10 ^ suc i ≤ 10 ^ k = pow-le-pow_right {n = 10} (omega arith) {i = suc i} {j = k} (omega arith) in
    let from : 10 ^ k ≤ x = low (omega arith) in
    le-ltb x (10 ^ suc i) (omega arith))
    (λ _. lt-ltb x (10 ^ suc k) high)))
  where
    -- a power of 10 is above its exponent
    above : (j : ℕ) → j < 10 ^ j
    above zero = omega arith
    above (suc j) = let before = above j in let more : 10 ^ suc j ≡ 10 ^ j * 10 = pow-suc 10 j in omega arith

    few : (j : ℕ) → (0 < j → 10 ^ j ≤ x) → j ≤ x
    few zero h = omega arith
    few (suc j) h = let most = above (suc j) in let from = h (omega arith) in omega arith

places_long : (steps x : ℕ) → x ≤ steps → (k : ℕ) × (x < 10 ^ suc k) × (0 < k → 10 ^ k ≤ x) × (length (decimal_in steps x) ≡ suc k)
unfolding decimal_in
places_long zero x h = (0, omega arith, λ some. absurd (omega arith), refl)
places_long (suc steps) x h =
    elim (split 10 x) [
      | inl a ↦
          let rest = places_long steps (x / 10) (omega arith) in
          let k = rest.0 in
          let high : x / 10 < 10 ^ suc k = rest.1 in
          let low : 0 < k → 10 ^ k ≤ x / 10 = rest.2 in
          let long : length (decimal_in steps (x / 10)) ≡ suc k = rest.3 in
          let more : 10 ^ suc (suc k) ≡ 10 ^ suc k * 10 = pow-suc 10 (suc k) in
          let all : length (decimal_in steps (x / 10) ++ (letter (x % 10) ∷ [])) ≡ length (decimal_in steps (x / 10)) + 1 = length-append (decimal_in steps (x / 10)) _ in
          (suc k, omega arith, λ _. tenth k low a, rw (le-ltb x 10 a) (omega arith))
      | inr a ↦ (0, a, λ some. absurd (omega arith), rw (lt-ltb x 10 a))
    ]
  where
    tenth : (k : ℕ) → (0 < k → 10 ^ k ≤ x / 10) → 10 ≤ x → 10 ^ suc k ≤ x
    tenth zero low a = a
    tenth (suc k) low a =
        let from = low (omega arith) in
        let more : 10 ^ suc (suc k) ≡ 10 ^ suc k * 10 = pow-suc 10 (suc k) in
        omega arith

pub digits_long : (x : ℕ) → length (decimal x) ≡ digit_count x
unfolding decimal
digits_long x = let p = places_long x x (omega arith) in p.3 ∙ sym (digit_count_is p.0 x p.1 p.2)

pub digit_counts : DigitCounts
digit_counts = record { long = digits_long }

-- a number below 10 ^ k has at most k digits
pub digits_few : (k x : ℕ) → x < 10 ^ suc k → digit_count x ≤ k + 1
unfolding digit_count
digits_few k x h =
    elim (split (suc k) (least x (λ j. ltb x (10 ^ suc j)))) [
      | inl a ↦ absurd (true≢false (sym (lt-ltb x (10 ^ suc k) h) ∙ least_before x (λ j. ltb x (10 ^ suc j)) k (omega arith)))
      | inr a ↦ omega arith
    ]

places_on_line : (steps x : ℕ) (rest : List ℕ) → after_line (decimal_in steps x ++ rest) ≡ after_line rest
unfolding decimal_in
places_on_line zero x rest = after_byte rest (letter x) (λ e. omega arith)
places_on_line (suc steps) x rest =
    elim (split 10 x) [
      | inl a ↦
          rw (le-ltb x 10 a)
          (ap after_line (append_assoc (decimal_in steps (x / 10)) (letter (x % 10) ∷ []) rest)
          ∙ places_on_line steps (x / 10) (letter (x % 10) ∷ rest)
          ∙ after_byte rest (letter (x % 10)) (λ e. omega arith))
      | inr a ↦ rw (lt-ltb x 10 a) (after_byte rest (letter x) (λ e. omega arith))
    ]

pub after_decimal : (x : ℕ) (rest : List ℕ) → after_line (decimal x ++ rest) ≡ after_line rest
unfolding decimal
after_decimal x rest = places_on_line x x rest

-- Digits and the byte that ends them, which comes before all letters of digits: there is one number and one rest of the text that they can be of.
module _ (end : ℕ) (low : end < letter 0) where
  -- the number whose digits are those of v and then those of the text up to its end, and the text after that end
  abbrev read_on : ℕ → List ℕ → ℕ × List ℕ
  read_on v [] = (v, [])
  read_on v (b ∷ text) = cond (eqb b end) (v, text) (read_on (10 * v + (b - letter 0)) text)

  read_letter : (v d x : ℕ) (rest : List ℕ) → 10 * v + d ≡ x → read_on v (letter d ∷ rest) ≡ read_on x rest
  read_letter v d x rest e =
      cond_false (eqb (letter d) end) (v, rest) (read_on (10 * v + (letter d - letter 0)) rest) (ne_eqb (letter d) end (λ same. omega arith))
      ∙ ap (λ (w : ℕ). read_on w rest) (omega arith)

  read_places : (steps x : ℕ) (rest : List ℕ) → x ≤ steps → read_on 0 (decimal_in steps x ++ rest) ≡ read_on x rest
  unfolding decimal_in
  read_places zero x rest h = read_letter 0 x x rest (omega arith)
  read_places (suc steps) x rest h =
      elim (split 10 x) [
        | inl a ↦
            rw (le-ltb x 10 a)
            (ap (read_on 0) (append_assoc (decimal_in steps (x / 10)) (letter (x % 10) ∷ []) rest)
            ∙ read_places steps (x / 10) (letter (x % 10) ∷ rest) (omega arith)
            ∙ read_letter (x / 10) (x % 10) x rest (omega arith))
        | inr a ↦ rw (lt-ltb x 10 a) (read_letter 0 x x rest (omega arith))
      ]

  read_decimal : (x : ℕ) (rest : List ℕ) → read_on 0 (decimal x ++ (end ∷ rest)) ≡ (x, rest)
  unfolding decimal
  read_decimal x rest =
      read_places x x (end ∷ rest) (omega arith)
      ∙ cond_true (eqb end end) (x, rest) (read_on (10 * x + (end - letter 0)) rest) (eq-eqb end end refl)

  pub same_number : (x y : ℕ) (rest others : List ℕ) → decimal x ++ (end ∷ rest) ≡ decimal y ++ (end ∷ others) → (x ≡ y) × (rest ≡ others)
  same_number x y rest others e =
      let both = sym (read_decimal x rest) ∙ ap (read_on 0) e ∙ read_decimal y others in
      (ap (λ (p : ℕ × List ℕ). p.0) both, ap (λ (p : ℕ × List ℕ). p.1) both)
