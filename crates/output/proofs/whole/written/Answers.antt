-- `written` meets its contract: what the closure puts is written into a buffer of zeros, which it keeps. Assumes nothing.
use borrow.Author.Rules.{rules}
use Rattle.buffer.specs.Puts.{Puts}
use Rattle.output.proofs.Buffer.{written_output}
use Rattle.output.proofs.whole.written.Goals as goal

pub returns : goal.returns
returns g c =
    record {
      output = λ part puts fits.
          let put : Puts _ c.put.new.arg2 part = puts _ _ c.put.ensures in
          written_output c.blank_output-bytes.ensures.zeros put.writes fits (search rules);
    }
