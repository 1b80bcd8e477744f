-- `number_field` meets its contract: the first two bytes tell whether a number has one digit or two, and it ends after them. Assumes nothing.
use mathlib.Core.Path.{◌≡◌, sym, ◌∙◌}
use mathlib.Core.Bool.{true, false}
use Prim.Native.Nat.{◌+◌, ◌-◌, ◌*◌, ◌≤◌}
use native.Mathlib.Omega.{arith}
use Rattle.std.proofs.Common.{rules}
use Rattle.laws.proofs.Test.{was_true, was_false}
use Rattle.fields.specs.Decimal.{letter, is_digit}
use Rattle.fields.specs.Fields.{ended, field_is}
use Rattle.fields.proofs.Forms.{digit_test, none_no_digit, digit_within, number_none, number_one, number_zero, number_two}
use Rattle.fields.proofs.number_field.Goals as goal
use Rattle.fields.proofs.number_field.Goals.{Else-first-eq48, Else-not-is_ascii_digit, Else-not-is_ascii_digit-2}

-- no first byte is no digit
pub returns-in_err-first-clause-read : goal.returns-in_err-first-clause-read
returns-in_err-first-clause-read c =
    let a = c.args in
    rw c.from_residual.ensures (sym (number_none a.end a.text.now 0 (search rules) none_no_digit))

pub returns-then-not-is_ascii_digit : goal.returns-then-not-is_ascii_digit
returns-then-not-is_ascii_digit c =
    let a = c.args in
    let first = c.in_ok-first.field-0.now in
    let none : is_digit first ≡ false = was_false (c.is_ascii_digit.ensures.value ∙ digit_test _) c.if-not-is_ascii_digit.true in
    record { read = sym (number_none a.end a.text.now first (search rules) none); within = tt }

-- the first byte is a digit
digit_first : (c : Else-not-is_ascii_digit) → is_digit c.in_ok-first.field-0.now ≡ true
digit_first c = was_true (c.is_ascii_digit.ensures.value ∙ digit_test _) c.if-not-is_ascii_digit.false

pub overflow_sub-first : goal.overflow_sub-first
overflow_sub-first c =
    omega (arith, digit_within _ (digit_first (goal.at.overflow_sub-first c).Else-not-is_ascii_digit))

pub returns-then-not-is_ascii_digit-2 : goal.returns-then-not-is_ascii_digit-2
returns-then-not-is_ascii_digit-2 c =
    let a = c.args in
    let first = c.in_ok-first.field-0.now in
    let second = c.unwrap_or-second in
    let alone : is_digit second.result ≡ false = was_false (c.is_ascii_digit-2.ensures.value ∙ digit_test _) c.if-not-is_ascii_digit-2.true in
    let read : field_is a.text.now c.ended.result ≡ ended a.end a.text.now (first - letter 0) 1 = c.ended.ensures.read in
    record { read = read ∙ sym (number_one a.end a.text.now first (search rules) second.result (search rules) (digit_first (goal.at.returns-then-not-is_ascii_digit-2 c).Else-not-is_ascii_digit) alone); within = c.ended.ensures.within }

-- so is the second
digit_second : (c : Else-not-is_ascii_digit-2) → is_digit c.unwrap_or-second.result ≡ true
digit_second c = was_true (c.is_ascii_digit-2.ensures.value ∙ digit_test _) c.if-not-is_ascii_digit-2.false

pub returns-then-first-eq48 : goal.returns-then-first-eq48
returns-then-first-eq48 c =
    let a = c.args in
    let first = c.in_ok-first.field-0.now in
    let second = c.unwrap_or-second in
    let zero_first : first ≡ letter 0 = omega arith in
    record { read = sym (number_zero a.end a.text.now first (search rules) second.result (search rules) (digit_first (goal.at.returns-then-first-eq48 c).Else-not-is_ascii_digit) (digit_second (goal.at.returns-then-first-eq48 c).Else-not-is_ascii_digit-2) zero_first); within = tt }

-- both bytes as digits
digits : (c : Else-first-eq48)
    → let first = c.in_ok-first.field-0.now in
    let second = c.unwrap_or-second.result in
    ((letter 0 ≤ first) × (first ≤ letter 9)) × ((letter 0 ≤ second) × (second ≤ letter 9))
digits c = (digit_within _ (digit_first (goal.at.Else-first-eq48 c).Else-not-is_ascii_digit), digit_within _ (digit_second (goal.at.Else-first-eq48 c).Else-not-is_ascii_digit-2))

pub overflow_sub-first-2 : goal.overflow_sub-first-2
overflow_sub-first-2 c =
    omega (arith, digits c)

pub overflow_mul-first : goal.overflow_mul-first
overflow_mul-first c =
    omega (arith, digits c)

pub overflow_sub-second : goal.overflow_sub-second
overflow_sub-second c =
    omega (arith, digits c)

pub overflow_add-first : goal.overflow_add-first
overflow_add-first c =
    omega (arith, digits c)

pub returns : goal.returns
returns c =
    let a = c.args in
    let first = c.in_ok-first.field-0.now in
    let second = c.unwrap_or-second in
    let read : field_is a.text.now c.ended-2.result ≡ ended a.end a.text.now (10 * (first - letter 0) + (second.result - letter 0)) 2 = c.ended-2.ensures.read in
    record { read = read ∙ sym (number_two a.end a.text.now first (search rules) second.result (search rules) (digit_first (goal.at.returns c).Else-not-is_ascii_digit) (digit_second (goal.at.returns c).Else-not-is_ascii_digit-2) (λ z. omega arith)); within = c.ended-2.ensures.within }
