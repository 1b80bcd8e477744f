-- `is_quiet` meets its contract. Assumes nothing.
use lib.Dec.{leb}
use Rattle.laws.proofs.Test.{and_goes_on, and_ends}
use Prim.Native.Nat.{◌-◌}
use native.Mathlib.Omega.{arith}
use Rattle.member.specs.Hearing.{estimates, quiet}
use borrow.Author.Tests.{le-leb, lt-leb}
use Rattle.hearing.proofs.HeardRows.{few}
use Rattle.member.proofs.Range.{in_range_ranged}
use Rattle.hearing.proofs.rules.is_quiet.Goals as goal

pub returns-then-r-t : goal.returns-then-r-t
unfolding quiet
returns-then-r-t c =
    record {
      tested = let h = c.args.heard.now in
          let a = h.member in
          and_goes_on (leb a.round (a.t - 1)) (leb (a.n - estimates h.counts) (a.round - 2)) (le-leb a.round (a.t - 1) (omega arith));
    }

pub returns-else-r-t : goal.returns-else-r-t
unfolding quiet
returns-else-r-t c =
    record {
      tested = let h = c.args.heard.now in
          let a = h.member in
          and_ends (leb a.round (a.t - 1)) (leb (a.n - estimates h.counts) (a.round - 2)) (lt-leb a.round (a.t - 1) (omega arith));
    }

pub overflow_sub-t : goal.overflow_sub-t
overflow_sub-t c =
    let h = c.args.heard.now in
    omega (arith, few h, in_range_ranged _ _ h.in_range, c.requires.later)

pub overflow_add-result : goal.overflow_add-result
overflow_add-result c =
    let h = c.args.heard.now in
    omega (arith, few h, in_range_ranged _ _ h.in_range, c.requires.later)

pub overflow_sub-result : goal.overflow_sub-result
overflow_sub-result c =
    let h = c.args.heard.now in
    omega (arith, few h, in_range_ranged _ _ h.in_range, c.requires.later)
