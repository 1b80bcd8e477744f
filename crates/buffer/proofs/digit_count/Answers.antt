-- `digit_count` meets its contract: `io::decimal` answers the fewest digits. Assumes nothing.
use Rattle.buffer.proofs.Digits.{fewest_digits}
use Rattle.buffer.proofs.digit_count.Goals as goal

pub returns : goal.returns
returns c =
    record { counted = fewest_digits _ c.args.number c.decimal.ensures.len }
