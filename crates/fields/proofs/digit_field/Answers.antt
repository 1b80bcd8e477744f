-- `digit_field` meets its contract: the first byte is a digit or none, and the field ends after it. Assumes nothing.
use mathlib.Core.Path.{◌≡◌, sym, ◌∙◌}
use mathlib.Core.Bool.{true, false}
use Prim.Native.Nat.{◌-◌}
use native.Mathlib.Omega.{arith}
use Rattle.std.proofs.Common.{rules}
use Rattle.laws.proofs.Test.{was_true, was_false}
use Rattle.fields.specs.Decimal.{letter, is_digit}
use Rattle.fields.specs.Fields.{ended, field_is}
use Rattle.fields.proofs.Forms.{digit_test, none_no_digit, digit_within, digit_none, digit_one}
use Rattle.fields.proofs.digit_field.Goals as goal
use Rattle.fields.proofs.digit_field.Goals.{Else-not-is_ascii_digit}

-- no first byte is no digit
pub returns-in_err-digit-clause-read : goal.returns-in_err-digit-clause-read
returns-in_err-digit-clause-read c =
    let a = c.args in
    rw c.from_residual.ensures (sym (digit_none a.end a.text.now 0 (search rules) none_no_digit))

pub returns-then-not-is_ascii_digit : goal.returns-then-not-is_ascii_digit
returns-then-not-is_ascii_digit c =
    let a = c.args in
    let first = c.in_ok-digit.field-0.now in
    let none : is_digit first ≡ false = was_false (c.is_ascii_digit.ensures.value ∙ digit_test _) c.if-not-is_ascii_digit.true in
    record { read = sym (digit_none a.end a.text.now first (search rules) none); within = tt }

-- the first byte is a digit
digit : (c : Else-not-is_ascii_digit) → is_digit c.in_ok-digit.field-0.now ≡ true
digit c = was_true (c.is_ascii_digit.ensures.value ∙ digit_test _) c.if-not-is_ascii_digit.false

pub overflow_sub-digit : goal.overflow_sub-digit
overflow_sub-digit c =
    omega (arith, digit_within _ (digit c))

pub returns : goal.returns
returns c =
    let a = c.args in
    let first = c.in_ok-digit.field-0.now in
    let read : field_is a.text.now c.ended.result ≡ ended a.end a.text.now (first - letter 0) 1 = c.ended.ensures.read in
    record { read = read ∙ sym (digit_one a.end a.text.now first (search rules) (digit (goal.at.returns c).Else-not-is_ascii_digit)); within = c.ended.ensures.within }
