-- `is_within` meets its contract: the two halves of `&&` are the two tests of `within`. Assumes nothing.
use Rattle.laws.proofs.Test.{and_goes_on, and_ends}
use lib.Dec.{leb}
use native.Mathlib.Omega.{arith}
use borrow.Author.Tests.{le-leb, lt-leb}
use Rattle.laws.specs.Test.{within}
use Rattle.laws.proofs.is_within.Goals as goal

pub returns-then-lo-x : goal.returns-then-lo-x
unfolding within
returns-then-lo-x c =
    record { tested = let a = c.args in and_goes_on (leb a.lo a.x) (leb a.x a.hi) (le-leb a.lo a.x (omega arith)) }

pub returns-else-lo-x : goal.returns-else-lo-x
unfolding within
returns-else-lo-x c =
    record { tested = let a = c.args in and_ends (leb a.lo a.x) (leb a.x a.hi) (lt-leb a.lo a.x (omega arith)) }
