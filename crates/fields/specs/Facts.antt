-- What the contracts of the field readers come to, and how many digits a number has. Proved in proofs/OneAnswer.antt and proofs/Digits.antt, and assumes
-- nothing: `one_answer : (A : Type 0) (text : List ℕ) → OneAnswer A text`, `digit_counts : DigitCounts`.
use Rattle.std.specs.Prelude.{ℕ, ◌≡◌, List, Option, length}
use Rattle.fields.specs.Decimal.{decimal, digit_count}
use Rattle.fields.specs.declared.Field.{Field}
use Rattle.fields.specs.Fields.{field_is, field_within}

-- Two answers that say the same of the start of a text, and whose bytes stand in it, are the same: so a contract leaves one answer.
pub record OneAnswer (A : Type 0) (text : List ℕ) : Type 0 where
  pub field : (r s : Option (Field A)) → field_is text r ≡ field_is text s → field_within text r → field_within text s → r ≡ s

-- The number of digits is the length of what is written of a number.
pub record DigitCounts : Type 0 where
  pub long : (x : ℕ) → length (decimal x) ≡ digit_count x
