-- The decimal digits that `io::decimal` writes are those of the definition: with one digit the number is below 10, and with more its last digit follows
-- those of its tenth. Assumes nothing.
use mathlib.Core.Path.{◌≡◌, sym, ap, ap₂, ◌∙◌, subst}
use mathlib.Core.List.{List, [], ◌∷◌, ◌++◌}
use Prim.Native.Nat.{ℕ, zero, suc, ◌+◌, ◌-◌, ◌*◌, ◌/◌, ◌%◌, ◌^◌, ◌≤◌, ◌<◌}
use native.Mathlib.Nat.{mod-eq_of_lt, pow-suc, one-le-pow}
use native.Mathlib.Omega.{arith}
use borrow.Author.Tests.{lt-ltb, le-ltb}
use lib.Dec.{ltb}
use Rattle.io.specs.Digits.{hex_digit_ascii, last_digits, IsDigitCount}
use Rattle.laws.proofs.Test.{cond_true, cond_false}
use Rattle.fields.specs.Decimal.{letter, decimal_in, decimal, digit_count}
use Rattle.fields.proofs.Digits.{one_place, digit_count_is}

glyph_letter : (d : ℕ) → d < 10 → hex_digit_ascii d ≡ letter d
glyph_letter d l = cond_true (ltb d 10) (48 + d) (87 + d) (lt-ltb d 10 l)

digits_in : (k steps x : ℕ) → x ≤ steps → x < 10 ^ suc k → (0 < k → 10 ^ k ≤ x) → last_digits 10 (suc k) x ≡ decimal_in steps x
unfolding decimal_in
digits_in zero steps x s h low =
    let below : x < 10 = h in
    ap (λ (d : ℕ). hex_digit_ascii d ∷ []) (mod-eq_of_lt below) ∙ ap (λ (b : ℕ). b ∷ []) (glyph_letter x below) ∙ sym (one_place steps x below)
digits_in (suc k) zero x s h low =
    let least : 10 ^ suc k ≤ x = low (omega arith) in
    let some : 1 ≤ 10 ^ suc k = one-le-pow (suc k) 10 (omega arith) in
    absurd (omega arith)
digits_in (suc k) (suc steps) x s h low =
    let least : 10 ^ suc k ≤ x = low (omega arith) in
    let high : 10 ^ suc (suc k) ≡ 10 ^ suc k * 10 = pow-suc 10 (suc k) in
    let tenth : 10 ^ suc k ≡ 10 ^ k * 10 = pow-suc 10 k in
    let some : 1 ≤ 10 ^ k = one-le-pow k 10 (omega arith) in
    let from-10 : 10 ≤ x = omega arith in
    let rest = digits_in k steps (x / 10) (omega arith) (omega arith) (λ _. omega arith) in
    ap₂ (λ (a : List ℕ) (b : ℕ). a ++ (b ∷ [])) rest (glyph_letter (x % 10) (omega arith)) ∙ sym (cond_false (ltb x 10) _ _ (le-ltb x 10 from-10))

pub digits_decimal : (k x : ℕ) → IsDigitCount 10 1 x k → last_digits 10 k x ≡ decimal x
unfolding decimal
digits_decimal zero x h = absurd (omega arith)
digits_decimal (suc k) x h =
    let before : suc k - 1 ≡ k = omega arith in
    digits_in k x x (omega arith) h.1 (λ some. subst (λ (j : ℕ). 10 ^ j ≤ x) before (h.2 (omega arith)))

-- and so many there are
pub fewest_digits : (k x : ℕ) → IsDigitCount 10 1 x k → k ≡ digit_count x
fewest_digits zero x h = absurd (omega arith)
fewest_digits (suc k) x h =
    let before : suc k - 1 ≡ k = omega arith in
    sym (digit_count_is k x h.1 (λ some. subst (λ (j : ℕ). 10 ^ j ≤ x) before (h.2 (omega arith))))
