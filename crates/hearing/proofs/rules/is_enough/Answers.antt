-- `is_enough` meets its contract. Assumes nothing.
use Prim.Native.Nat.{◌+◌, ◌-◌}
use lib.Dec.{leb, eqb}
use Rattle.laws.proofs.Test.{and_goes_on, and_ends}
use native.Mathlib.Omega.{arith}
use Rattle.member.specs.Hearing.{estimates, enough}
use borrow.Author.Tests.{eq-eqb, ne_eqb}
use Rattle.hearing.proofs.HeardRows.{few}
use Rattle.member.proofs.Range.{in_range_ranged}
use Rattle.hearing.proofs.rules.is_enough.Goals as goal

pub returns-then-r-t : goal.returns-then-r-t
unfolding enough
returns-then-r-t c =
    record {
      tested = let h = c.args.heard.now in
          let a = h.member in
          and_goes_on (eqb a.round a.t) (leb (a.n - a.t + 1) (estimates h.counts)) (eq-eqb a.round a.t (omega arith));
    }

pub returns-else-r-t : goal.returns-else-r-t
unfolding enough
returns-else-r-t c =
    record {
      tested = let h = c.args.heard.now in
          let a = h.member in
          and_ends (eqb a.round a.t) (leb (a.n - a.t + 1) (estimates h.counts)) (ne_eqb a.round a.t c.if-r-t.false);
    }

pub overflow_sub-result : goal.overflow_sub-result
overflow_sub-result c =
    let h = c.args.heard.now in
    omega (arith, few h, in_range_ranged _ _ h.in_range)

pub overflow_add-result : goal.overflow_add-result
overflow_add-result c =
    let h = c.args.heard.now in
    omega (arith, few h, in_range_ranged _ _ h.in_range)

pub overflow_add-result-then-r-t : goal.overflow_add-result-then-r-t
overflow_add-result-then-r-t c =
    let h = c.args.heard.now in
    omega (arith, few h, in_range_ranged _ _ h.in_range)
