-- The forms of fields, case by case as they are read, and that the bytes of a field stand in the text. Assumes nothing.
use mathlib.Core.Path.{◌≡◌, refl}
use mathlib.Core.Bool.{true, false}
use mathlib.Core.List.{List}
use Prim.Native.Nat.{ℕ, ◌+◌, ◌-◌, ◌*◌, ◌≤◌, ◌<◌}
use borrow.Author.Tests.{eq-eqb, ne_eqb, ltb-true, le-leb, lt-leb}
use lib.Dec.{ltb, eqb}
use lib.ListN.{length, get_or, drop}
use Rattle.std.specs.Char.{is_ascii_digit}
use Rattle.laws.specs.Test.{within}
use Rattle.laws.specs.Below.{count}
use Rattle.sets.specs.Sets.{set_of}
use Rattle.laws.proofs.Test.{and_left, within_low, within_high}
use Rattle.fields.specs.Found.{found, wrong}
use Rattle.fields.specs.Decimal.{letter, is_digit}
use Rattle.fields.specs.Fields.{has_byte, ended, number_field, digit_field, reach_field, reach_up_to}

-- the library's test of a digit asks the same
pub digit_test : (b : ℕ) → is_ascii_digit b ≡ is_digit b
unfolding is_digit within
digit_test b = refl

-- the 0 in place of a byte that isn't there
pub none_no_digit : is_digit 0 ≡ false
unfolding is_digit within
none_no_digit = refl

pub digit_within : (b : ℕ) → is_digit b ≡ true → (letter 0 ≤ b) × (b ≤ letter 9)
unfolding is_digit
digit_within b e = (within_low (letter 0) b (letter 9) e, within_high (letter 0) b (letter 9) e)

pub byte_within : (b : ℕ) (text : List ℕ) (k : ℕ) → has_byte b text k ≡ true → k < length text
unfolding has_byte
byte_within b text k e = ltb-true k (length text) (and_left (ltb k (length text)) (eqb (get_or text k 0) b) e)

module _ (end : ℕ) (text : List ℕ) where
  module _ {A : Type 0} (value : A) (k : ℕ) where
    pub ended_not : has_byte end text k ≡ false → ended end text value k ≡ wrong
    unfolding ended
    ended_not e = rw e

    pub ended_is : has_byte end text k ≡ true → ended end text value k ≡ found value (drop (k + 1) text)
    unfolding ended
    ended_is e = rw e

  -- Numbers, by the first two bytes.
  module _ (first : ℕ) (at-0 : first ≡ get_or text 0 0) where
    pub digit_none : is_digit first ≡ false → digit_field end text ≡ wrong
    unfolding digit_field
    digit_none a = rw (← at-0, a)

    pub digit_one : is_digit first ≡ true → digit_field end text ≡ ended end text (first - letter 0) 1
    unfolding digit_field
    digit_one a = rw (← at-0, a)

    pub number_none : is_digit first ≡ false → number_field end text ≡ wrong
    unfolding number_field
    number_none a = rw (← at-0, a)

    module _ (second : ℕ) (at_1 : second ≡ get_or text 1 0) (a : is_digit first ≡ true) where
      pub number_one : is_digit second ≡ false → number_field end text ≡ ended end text (first - letter 0) 1
      unfolding number_field
      number_one b = rw (← at-0, ← at_1, a, b)

      pub number_zero : is_digit second ≡ true → first ≡ letter 0 → number_field end text ≡ wrong
      unfolding number_field
      number_zero b z = rw (← at-0, ← at_1, a, b, eq-eqb first (letter 0) z)

      pub number_two : is_digit second ≡ true → (first ≡ letter 0 → ⊥) → number_field end text ≡ ended end text (10 * (first - letter 0) + (second - letter 0)) 2
      unfolding number_field
      number_two b z = rw (← at-0, ← at_1, a, b, ne_eqb first (letter 0) z)

  -- A reach, by how many of its letters are 0 or 1.
  pub reach_long : (limit n : ℕ) → limit < n → reach_up_to end text limit n ≡ wrong
  unfolding reach_up_to
  reach_long limit n l = rw (lt-leb n limit l)

  module _ (limit n letters : ℕ) (counted : letters ≡ count n (λ j. within (letter 0) (get_or text j 0) (letter 1))) (fits : n ≤ limit) where
    pub reach_letters : (letters ≡ n → ⊥) → reach_up_to end text limit n ≡ wrong
    unfolding reach_up_to reach_field
    reach_letters a = rw (le-leb n limit fits, ← counted, ne_eqb letters n a)

    pub reach_ended : letters ≡ n → reach_up_to end text limit n ≡ ended end text (set_of n (λ j. get_or text j 0 - letter 0)) n
    unfolding reach_up_to reach_field
    reach_ended a = rw (le-leb n limit fits, ← counted, eq-eqb letters n a)
