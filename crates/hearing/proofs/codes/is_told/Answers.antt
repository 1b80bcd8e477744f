-- `is_told` meets its contract. Assumes nothing.
use lib.Dec.{ltb}
use Rattle.laws.proofs.Test.{or_goes_on, or_ends}
use native.Mathlib.Omega.{arith}
use Rattle.member.specs.Hearing.{told}
use borrow.Author.Tests.{lt-ltb, le-ltb}
use Rattle.hearing.proofs.codes.is_told.Goals as goal

pub returns-then-k-gt0 : goal.returns-then-k-gt0
unfolding told
returns-then-k-gt0 c =
    record { tested = let k = c.args.k in or_ends (ltb 0 k.aborts) (ltb 0 k.commits) (lt-ltb 0 k.aborts (omega arith)) }

pub returns-else-k-gt0 : goal.returns-else-k-gt0
unfolding told
returns-else-k-gt0 c =
    record { tested = let k = c.args.k in or_goes_on (ltb 0 k.aborts) (ltb 0 k.commits) (le-ltb 0 k.aborts (omega arith)) }
