-- `is_zeros_only` meets its contract. Assumes nothing.
use lib.Dec.{eqb}
use Rattle.laws.proofs.Test.{and_goes_on, and_ends}
use native.Mathlib.Omega.{arith}
use Rattle.member.specs.Hearing.{zeros_only}
use borrow.Author.Tests.{eq-eqb, ne_eqb}
use Rattle.hearing.proofs.rules.is_zeros_only.Goals as goal

pub returns-then-r-eq2 : goal.returns-then-r-eq2
unfolding zeros_only
returns-then-r-eq2 c =
    record { tested = let a = c.args in and_goes_on (eqb a.r 2) (eqb a.k.ones 0) (eq-eqb a.r 2 (omega arith)) }

pub returns-else-r-eq2 : goal.returns-else-r-eq2
unfolding zeros_only
returns-else-r-eq2 c =
    record { tested = let a = c.args in and_ends (eqb a.r 2) (eqb a.k.ones 0) (ne_eqb a.r 2 c.if-r-eq2.false) }
