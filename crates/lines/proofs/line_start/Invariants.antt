-- `line_start` meets its contract: after i turns `at` is where the text after the first i lines starts, and once that is the text's end it is so after
-- any more lines. Assumes nothing.
use mathlib.Core.Path.{◌≡◌}
use Rattle.lines.specs.Lines.{after_lines, start_of}
use Rattle.lines.proofs.line_start.Given as goal

abbrev pub invariant-loop : goal.invariant-loop
invariant-loop l = l.at ≡ start_of l.text (after_lines l.counter l.text)
