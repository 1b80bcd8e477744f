-- The fields of a line: "fields are split by one space", and the last ends with the line's LF. So each field is read with the byte that ends it. Past
-- the end of a text byte 0 stands here, which is no digit.
use Rattle.std.specs.Prelude.{ℕ, ◌+◌, ◌-◌, ◌*◌, ◌≤◌, List, [], ◌∷◌, Option, Some, None, Bool, true, false, cond, ◌&&◌, not, length, get_or, drop, ltb, leb, eqb}
use Rattle.laws.specs.Test.{within}
use Rattle.laws.specs.Below.{count}
use Rattle.sets.specs.Sets.{set_of}
use Rattle.fields.specs.Found.{Found, found, wrong}
use Rattle.fields.specs.Decimal.{letter, is_digit}
use Rattle.fields.specs.declared.Field.{Field}

abbrev pub space : ℕ
space = 32

-- "The heading lines are compared letter for letter": whether a text starts with these letters
unfoldable pub starts_with : List ℕ → List ℕ → Bool
starts_with [] text = true
starts_with (a ∷ letters) [] = false
starts_with (a ∷ letters) (b ∷ text) = eqb a b && starts_with letters text

-- whether a text has byte b at place k
unfoldable pub has_byte : ℕ → List ℕ → ℕ → Bool
has_byte b text k = ltb k (length text) && eqb (get_or text k 0) b

module _ (end : ℕ) (text : List ℕ) where
  -- the digit that the byte at place k stands for
  abbrev pub digit_at : ℕ → ℕ
  digit_at k = get_or text k 0 - letter 0

  -- the value of a field of k bytes, if the byte that ends it follows
  unfoldable pub ended : {A : Type 0} → A → ℕ → Found A
  ended value k = cond (has_byte end text k) (found value (drop (k + 1) text)) wrong

  -- "numbers have one or two digits without a leading zero (zero itself is the one digit 0)"
  unfoldable pub number_field : Found ℕ
  number_field =
      cond (not (is_digit (get_or text 0 0))) wrong
      (cond (not (is_digit (get_or text 1 0))) (ended (digit_at 0) 1)
      (cond (eqb (get_or text 0 0) (letter 0)) wrong
      (ended (10 * digit_at 0 + digit_at 1) 2)))

  -- "one digit for the vote"
  unfoldable pub digit_field : Found ℕ
  digit_field = cond (is_digit (get_or text 0 0)) (ended (digit_at 0) 1) wrong

  -- "a reach of n letters 0 or 1, place j for process j"; "as a number, bit i − 1 stands for process i"
  unfoldable pub reach_field : ℕ → Found ℕ
  reach_field n =
      cond (eqb (count n (λ j. within (letter 0) (get_or text j 0) (letter 1))) n)
      (ended (set_of n digit_at) n)
      wrong

  -- a reach of at most so many processes
  unfoldable pub reach_up_to : ℕ → ℕ → Found ℕ
  reach_up_to limit n = cond (leb n limit) (reach_field n) wrong

-- What an answer says of the start of a text: a value and how many bytes it takes, its end included; or that none is there.
abbrev pub field_is : {A : Type 0} → List ℕ → Option (Field A) → Found A
field_is text (Some field) = found field.value (drop field.used text)
field_is text None = wrong

-- the bytes that a value takes stand in the text, so that what is left tells how many they are
abbrev pub field_within : {A : Type 0} → List ℕ → Option (Field A) → Type 0
field_within text (Some field) = field.used ≤ length text
field_within text None = Unit {0}
