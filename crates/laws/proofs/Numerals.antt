-- Numbers as rows of digits of w bits each, the lowest first: n digits make a number below 2 ^ (w n), in which each is found at its place; and a number of
-- so many bits is that of its own digits. Assumes nothing.
use mathlib.Core.Path.{◌≡◌, sym, ap, ◌∙◌}
use Prim.Native.Nat.{ℕ, zero, suc, ◌+◌, ◌-◌, ◌*◌, ◌/◌, ◌%◌, ◌^◌, ◌≤◌, ◌<◌}
use native.Mathlib.Nat.{add_comm, mod-eq_of_lt, mod-one, mul-add, mul-le-mul_right, mul-one, mul-suc, mul-zero, suc-mul}
use native.Mathlib.Omega.{arith}
use lib.Pow as Pow
use borrow.Author.Count.{below_none}
use Rattle.laws.specs.Below.{sum}
use Rattle.laws.proofs.Counting.{below_or_top}

module _ (w : ℕ) where
  -- the number with these n digits, and the digit of a number at place j
  abbrev pub numeral : ℕ → (ℕ → ℕ) → ℕ
  numeral n digit = sum n (λ j. digit j * 2 ^ (w * j))

  abbrev pub digit_at : ℕ → ℕ → ℕ
  digit_at x j = x / 2 ^ (w * j) % 2 ^ w

  -- one digit more
  longer : (n : ℕ) → w * suc n ≡ w + w * n
  longer n = mul-suc w n ∙ add_comm (w * n) w

  digits_sum : (n x : ℕ) → numeral n (digit_at x) ≡ x % 2 ^ (w * n)
  unfolding sum
  digits_sum zero x = sym (ap (λ (k : ℕ). x % 2 ^ k) (mul-zero w) ∙ mod-one x)
  digits_sum (suc n) x =
      ap (λ (a : ℕ). a + digit_at x n * 2 ^ (w * n)) (digits_sum n x)
      ∙ add_comm (x % 2 ^ (w * n)) (digit_at x n * 2 ^ (w * n))
      ∙ sym (Pow.mod-pow-add x w (w * n))
      ∙ ap (λ (k : ℕ). x % 2 ^ k) (sym (longer n))

  pub of_its_digits : (n x : ℕ) → x < 2 ^ (w * n) → numeral n (digit_at x) ≡ x
  of_its_digits n x h = digits_sum n x ∙ mod-eq_of_lt h

  -- the digits below place n are those of what is left below it
  low_digit : (x n j : ℕ) → j < n → digit_at (x % 2 ^ (w * n)) j ≡ digit_at x j
  low_digit x n j l =
      let m = n - j - 1 in
      let exponent : w * n ≡ w * m + w + w * j =
      ap (λ (k : ℕ). w * k) {x = n} {y = m + 1 + j} (omega arith) ∙ mul-add w (m + 1) j ∙ ap (λ (k : ℕ). k + w * j) (mul-add w m 1 ∙ ap (λ (k : ℕ). w * m + k) (mul-one w)) in
      ap (λ (x : ℕ). x % 2 ^ w) (ap (λ (k : ℕ). x % 2 ^ k / 2 ^ (w * j)) exponent ∙ Pow.field x (w * m + w) (w * j))
      ∙ Pow.mod-mod-pow (x / 2 ^ (w * j)) (w * m) w

  module _ (digit : ℕ → ℕ) where
    pub numeral_below : (n : ℕ) → ((j : ℕ) → j < n → digit j < 2 ^ w) → numeral n digit < 2 ^ (w * n)
    unfolding sum
    numeral_below zero h = rw (mul-zero w) (omega arith)
    numeral_below (suc n) h =
        let below = numeral_below n (λ j l. h j (omega arith)) in
        let one : suc (digit n) * 2 ^ (w * n) ≤ 2 ^ w * 2 ^ (w * n) = mul-le-mul_right (2 ^ (w * n)) (h n (omega arith)) in
        let parts : suc (digit n) * 2 ^ (w * n) ≡ digit n * 2 ^ (w * n) + 2 ^ (w * n) = suc-mul (digit n) (2 ^ (w * n)) in
        let whole : 2 ^ (w * suc n) ≡ 2 ^ w * 2 ^ (w * n) = ap (λ (k : ℕ). 2 ^ k) (longer n) ∙ Pow.pow-add 2 w (w * n) in
        omega arith

    pub digit_found : (n : ℕ) → ((j : ℕ) → j < n → digit j < 2 ^ w) → (j : ℕ) → j < n → digit_at (numeral n digit) j ≡ digit j
    unfolding sum
    digit_found zero h = below_none (λ j. digit_at (numeral 0 digit) j ≡ digit j)
    digit_found (suc n) h =
        let few : (j : ℕ) → j < n → digit j < 2 ^ w = λ j l. h j (omega arith) in
        let below = numeral_below n few in
        let parts : numeral (suc n) digit ≡ digit n * 2 ^ (w * n) + numeral n digit = add_comm (numeral n digit) (digit n * 2 ^ (w * n)) in
        below_or_top (λ j. digit_at (numeral (suc n) digit) j ≡ digit j) n
        (λ j l.
        sym (low_digit (numeral (suc n) digit) n j l)
        ∙ ap (λ (x : ℕ). digit_at x j) (ap (λ (x : ℕ). x % 2 ^ (w * n)) parts ∙ Pow.low (digit n) (w * n) below)
        ∙ digit_found n few j l)
        (ap (λ (x : ℕ). x % 2 ^ w) (ap (λ (x : ℕ). x / 2 ^ (w * n)) parts ∙ Pow.high (digit n) (w * n) below)
        ∙ mod-eq_of_lt (h n (omega arith)))
