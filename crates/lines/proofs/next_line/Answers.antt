-- `next_line` meets its contract: the next line starts one place past the LF, and where there is no LF or no line, at the text's end.
-- Assumes nothing.
use native.Mathlib.Omega.{arith}
use Rattle.lines.proofs.Parts.{next_start}
use Rattle.lines.proofs.next_line.Goals as goal

pub returns-then-text-at : goal.returns-then-text-at
returns-then-text-at c =
    record { next = let a = c.args in omega (arith, next_start a.text.now a.at) }

pub returns-then-end-text : goal.returns-then-end-text
returns-then-end-text c =
    record { next = let a = c.args in omega (arith, next_start a.text.now a.at) }

pub returns-else-end-text : goal.returns-else-end-text
returns-else-end-text c =
    record { next = let a = c.args in omega (arith, next_start a.text.now a.at) }
