-- `line_start` meets its contract: after i turns `at` is where the text after the first i lines starts, and once that is the text's end it is so after
-- any more lines. Assumes nothing.
use native.Mathlib.Omega.{arith}
use Rattle.lines.specs.Lines.{after_lines}
use Rattle.lines.proofs.Endings.{after_short, after_fewer}
use Rattle.lines.proofs.Parts.{lines_more}
use Rattle.lines.proofs.line_start.Goals as goal

pub loop-preserved : goal.loop-preserved
loop-preserved c =
    lines_more c.args.text.now c.loop.counter c.loop.at c.next_line-at.result c.loop.invariant c.next_line-at.ensures.next

-- `at` is the text's end
pub returns-then-at-text : goal.returns-then-at-text
returns-then-at-text c =
    record {
      start = let text = c.args.text.now in
          let part = after_short c.loop.counter text in
          let fewer = after_fewer text c.loop.counter c.args.k (omega arith) in
          omega arith;
    }

pub loop-init : goal.loop-init
unfolding after_lines
loop-init c =
    omega arith
