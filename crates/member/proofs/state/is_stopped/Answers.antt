-- `is_stopped` meets its contract. Assumes nothing.
use Prim.Native.Nat.{◌+◌}
use native.Mathlib.Omega.{arith}
use borrow.Author.Tests.{eq-eqb, ne_eqb}
use Rattle.member.specs.State.{stopped}
use Rattle.member.proofs.Range.{stopped_last}
use Rattle.member.proofs.state.is_stopped.Goals as goal

pub returns-then-round-m : goal.returns-then-round-m
unfolding stopped
returns-then-round-m c =
    record { tested = let m = c.args.m in simp (eq-eqb m.round (m.t + 2) (omega arith)) }

pub returns-then-decided-eq0 : goal.returns-then-decided-eq0
unfolding stopped
returns-then-decided-eq0 c =
    record {
      tested = let m = c.args.m in
          simp (ne_eqb m.round (m.t + 2) c.if-round-m.false, eq-eqb m.decided 0 (omega arith));
    }

pub returns : goal.returns
returns c =
    record { tested = stopped_last _ c.if-round-m.false c.if-decided-eq0.false }
