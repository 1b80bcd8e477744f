-- `is_told_early` meets its contract. Assumes nothing.
use mathlib.Core.Path.{◌∙◌}
use lib.Dec.{leb}
use Rattle.laws.proofs.Test.{and_goes_on, and_ends}
use native.Mathlib.Omega.{arith}
use borrow.Author.Tests.{le-leb, lt-leb}
use Rattle.member.specs.Hearing.{told, told_early}
use Rattle.hearing.proofs.codes.is_told_early.Goals as goal

pub returns-then-r-le2 : goal.returns-then-r-le2
unfolding told_early
returns-then-r-le2 c =
    record { tested = let a = c.args in c.is_told.ensures.tested ∙ and_goes_on (leb a.r 2) (told a.k) (le-leb a.r 2 (omega arith)) }

pub returns-else-r-le2 : goal.returns-else-r-le2
unfolding told_early
returns-else-r-le2 c =
    record { tested = let a = c.args in and_ends (leb a.r 2) (told a.k) (lt-leb a.r 2 (omega arith)) }
