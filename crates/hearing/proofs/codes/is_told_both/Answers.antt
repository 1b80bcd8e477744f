-- `is_told_both` meets its contract. Assumes nothing.
use lib.Dec.{ltb}
use Rattle.laws.proofs.Test.{and_goes_on, and_ends}
use native.Mathlib.Omega.{arith}
use Rattle.member.specs.Hearing.{told_both}
use borrow.Author.Tests.{lt-ltb, le-ltb}
use Rattle.hearing.proofs.codes.is_told_both.Goals as goal

pub returns-then-k-gt0 : goal.returns-then-k-gt0
unfolding told_both
returns-then-k-gt0 c =
    record { tested = let k = c.args.k in and_goes_on (ltb 0 k.aborts) (ltb 0 k.commits) (lt-ltb 0 k.aborts (omega arith)) }

pub returns-else-k-gt0 : goal.returns-else-k-gt0
unfolding told_both
returns-else-k-gt0 c =
    record { tested = let k = c.args.k in and_ends (ltb 0 k.aborts) (ltb 0 k.commits) (le-ltb 0 k.aborts (omega arith)) }
