-- Numbers as digits: "numbers have .. digits without a leading zero (zero itself is the one digit 0)".
use Rattle.std.specs.Prelude.{ℕ, zero, suc, ◌+◌, ◌/◌, ◌%◌, ◌^◌, List, [], ◌∷◌, ◌++◌, Bool, cond, ltb}
use Rattle.laws.specs.Test.{within}
use Rattle.laws.specs.Below.{least}

-- the letter of a digit: `0` is byte 48
abbrev pub letter : ℕ → ℕ
letter d = 48 + d

-- whether a byte is the letter of a digit
unfoldable pub is_digit : ℕ → Bool
is_digit b = within (letter 0) b (letter 9)

-- the digits of x in at most steps + 1 places
unfoldable pub decimal_in : ℕ → ℕ → List ℕ
decimal_in zero x = letter x ∷ []
decimal_in (suc steps) x = cond (ltb x 10) (letter x ∷ []) (decimal_in steps (x / 10) ++ (letter (x % 10) ∷ []))

-- the digits of x: x + 1 places are enough for all of them
unfoldable pub decimal : ℕ → List ℕ
decimal x = decimal_in x x

-- how many digits x has: k + 1 for the least k such that x is below 10 ^ (k + 1)
unfoldable pub digit_count : ℕ → ℕ
digit_count x = suc (least x (λ k. ltb x (10 ^ suc k)))

-- a number and the byte that ends its field
unfoldable pub field : ℕ → ℕ → List ℕ
field x end = decimal x ++ (end ∷ [])
