-- `put_decisions` meets its contract: after i processes their lines are written, and the others are left. Assumes nothing.
use mathlib.Core.Path.{◌≡◌}
use Prim.Native.Nat.{◌≤◌}
use lib.ListN.{length, drop}
use Rattle.text.specs.Output.{decision_lines}
use Rattle.buffer.specs.Puts.{Puts}
use Rattle.report.proofs.put_decisions.Given as goal

abbrev pub invariant-loop-i : goal.invariant-loop-i
invariant-loop-i l =
    let i = l.i-iterator.count in
    record {
      within : i ≤ length l.lent.decisions.now;
      left : l.i-iterator.iter.a.rest.now ≡ drop i l.lent.decisions.now;
      left_rounds : l.i-iterator.iter.b.rest.now ≡ drop i l.lent.decided.now;
      written : Puts l.initial.out l.out (decision_lines i l.lent.decisions.now l.lent.decided.now);
    }
