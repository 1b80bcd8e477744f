-- `is_placed` meets its contract: its tests are those of `placed`, in order. Assumes nothing.
use Rattle.laws.specs.Test.{within}
use mathlib.Core.Bool.{true, false}
use mathlib.Core.Path.{◌≡◌}
use Prim.Native.Nat.{◌+◌}
use native.Mathlib.Omega.{arith}
use borrow.Author.Tests.{eq-eqb, ne_eqb}
use Rattle.laws.proofs.Test.{was_false, was_true}
use Rattle.member.specs.State.{placed}
use Rattle.member.proofs.Range.{placed_last}
use Rattle.member.proofs.state.is_placed.Goals as goal

pub returns-then-decided-eq0 : goal.returns-then-decided-eq0
unfolding placed
returns-then-decided-eq0 c =
    record {
      tested = let m = c.args.m in
          simp (eq-eqb m.decided 0 (omega arith)) c.is_within.ensures.tested;
    }

pub returns-then-not-is_within : goal.returns-then-not-is_within
unfolding placed
returns-then-not-is_within c =
    record {
      tested = let m = c.args.m in
          let h : within 2 m.decided (m.t + 1) ≡ false = was_false c.is_within-2.ensures.tested c.if-not-is_within.true in
          simp (ne_eqb m.decided 0 c.if-decided-eq0.false, h);
    }

pub returns-then-not-is_within-2 : goal.returns-then-not-is_within-2
unfolding placed
returns-then-not-is_within-2 c =
    record {
      tested = let m = c.args.m in
          let g : within 2 m.decided (m.t + 1) ≡ true = was_true c.is_within-2.ensures.tested c.if-not-is_within.false in
          let h : within (m.decided + 1) m.round (m.decided + 2) ≡ false = was_false c.is_within-3.ensures.tested c.if-not-is_within-2.true in
          simp (ne_eqb m.decided 0 c.if-decided-eq0.false, g, h);
    }

pub returns : goal.returns
returns c =
    record {
      tested = placed_last _ c.if-decided-eq0.false (was_true c.is_within-2.ensures.tested c.if-not-is_within.false)
          (was_true c.is_within-3.ensures.tested c.if-not-is_within-2.false);
    }
