-- `lower` meets its contract. Assumes nothing.
use native.Mathlib.Omega.{arith}
use Rattle.member.specs.Hearing.{lowered}
use borrow.Author.Tests.{lt-ltb, le-ltb}
use Rattle.hearing.proofs.rules.lower.Goals as goal

pub returns-then-k-gt0 : goal.returns-then-k-gt0
unfolding lowered
returns-then-k-gt0 c =
    record { is = let k = c.args.k in simp (lt-ltb 0 k.zeros (omega arith)) }

pub returns-else-k-gt0 : goal.returns-else-k-gt0
unfolding lowered
returns-else-k-gt0 c =
    record { is = let k = c.args.k in simp (le-ltb 0 k.zeros (omega arith)) }
