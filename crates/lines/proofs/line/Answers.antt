-- `line` meets its contract: the part from where line k starts to where it ends is the line without its LF. Assumes nothing.
use mathlib.Core.Path.{◌≡◌}
use Prim.Native.Nat.{◌+◌, ◌-◌}
use native.Mathlib.Omega.{arith}
use lib.ListN.{drop}
use Rattle.lines.specs.Lines.{line_length, after_lines, start_of}
use Rattle.lines.proofs.Parts.{line_none, line_part}
use Rattle.lines.proofs.line.Goals as goal

pub returns-then-k-eq0 : goal.returns-then-k-eq0
returns-then-k-eq0 c =
    record { part = let a = c.args in line_none a.text.now a.k (omega arith) }

pub returns : goal.returns
returns c =
    record {
      part = let a = c.args in
          let start = c.line_start-start.result in
          let end = c.line_end-end.result in
          let starts : start ≡ start_of a.text.now (after_lines (a.k - 1) a.text.now) = c.line_start-start.ensures.start in
          let ends : end ≡ start + line_length (drop start a.text.now) = omega arith in
          line_part a.text.now a.k start end (λ z. omega arith) starts ends;
    }
