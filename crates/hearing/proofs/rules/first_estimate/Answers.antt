-- `first_estimate` meets its contract. Assumes nothing.
use native.Mathlib.Omega.{arith}
use Rattle.member.specs.Hearing.{estimates, first_estimate}
use borrow.Author.Tests.{lt-ltb, le-ltb}
use Rattle.hearing.proofs.HeardRows.{few}
use Rattle.member.proofs.Range.{in_range_ranged}
use Rattle.hearing.proofs.rules.first_estimate.Goals as goal

pub returns-then-k-n : goal.returns-then-k-n
unfolding first_estimate
returns-then-k-n c =
    record { is = let h = c.args.heard.now in simp (lt-ltb (estimates h.counts) h.member.n (omega arith)) }

pub returns-then-k-gt0 : goal.returns-then-k-gt0
unfolding first_estimate
returns-then-k-gt0 c =
    record {
      is = let h = c.args.heard.now in
          simp (le-ltb (estimates h.counts) h.member.n (omega arith), lt-ltb 0 h.counts.zeros (omega arith));
    }

pub returns : goal.returns
unfolding first_estimate
returns c =
    record {
      is = let h = c.args.heard.now in
          simp (le-ltb (estimates h.counts) h.member.n (omega arith), le-ltb 0 h.counts.zeros (omega arith));
    }

pub overflow_add-k : goal.overflow_add-k
overflow_add-k c =
    let h = c.args.heard.now in
    omega (arith, few h, in_range_ranged _ _ h.in_range)
