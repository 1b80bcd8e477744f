-- `put_field` meets its contract: the digits that `io::decimal` gives are written, and then the byte that ends them. Assumes nothing.
use mathlib.Core.Path.{◌∙◌}
use Rattle.fields.specs.Decimal.{decimal, field}
use Rattle.buffer.proofs.Digits.{digits_decimal}
use Rattle.buffer.proofs.Puts.{puts_same, puts_more}
use Rattle.buffer.proofs.Writer.put_field.Goals as goal

pub returns : goal.returns
unfolding field
returns c =
    let number = c.args.number in
    let digits = c.decimal-k.ensures.digits ∙ digits_decimal _ number c.decimal-k.ensures.len in
    record { written = puts_more (decimal number) _ (puts_same digits c.put.ensures.written) c.put_byte.ensures.written }
