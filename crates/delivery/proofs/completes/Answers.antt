-- `completes` meets its contract: the two halves of `||` are the two tests of `completes_round`. Assumes nothing.
use lib.Dec.{ltb, eqb}
use native.Mathlib.Omega.{arith}
use borrow.Author.Tests.{eq-eqb, ne_eqb}
use Rattle.laws.proofs.Test.{or_goes_on, or_ends}
use Rattle.run.specs.Run.{completes_round}
use Rattle.delivery.proofs.completes.Goals as goal

pub returns-then-crash-eq0 : goal.returns-then-crash-eq0
unfolding completes_round
returns-then-crash-eq0 c =
    record { tested = let a = c.args in or_ends (eqb a.crash 0) (ltb a.round a.crash) (eq-eqb a.crash 0 (omega arith)) }

pub returns-else-crash-eq0 : goal.returns-else-crash-eq0
unfolding completes_round
returns-else-crash-eq0 c =
    record { tested = let a = c.args in or_goes_on (eqb a.crash 0) (ltb a.round a.crash) (ne_eqb a.crash 0 c.if-crash-eq0.false) }
