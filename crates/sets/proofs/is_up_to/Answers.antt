-- `is_up_to` meets its contract: a set is below 2 ^ n from its width on, and before that exactly where nothing is left past n bits. Assumes nothing.
use mathlib.Core.Path.{sym}
use native.Mathlib.Omega.{arith}
use borrow.Author.Rules.{rules}
use Rattle.sets.specs.Largest.{largest}
use Rattle.sets.proofs.Bits.{below_power, past_power}
use Rattle.sets.proofs.Theorem.{width_facts}
use Rattle.sets.proofs.is_up_to.Goals as goal

pub returns-then-n-ge-WIDTH : goal.returns-then-n-ge-WIDTH
returns-then-n-ge-WIDTH c =
    record { tested = let a = c.args in sym ((width_facts largest).up_to a.n a.set (search rules) (omega arith)) }

pub returns-then-set-n-gt0 : goal.returns-then-set-n-gt0
returns-then-set-n-gt0 c =
    record { tested = let a = c.args in sym (past_power a.set a.n (omega arith)) }

pub returns : goal.returns
returns c =
    record { tested = let a = c.args in sym (below_power a.set a.n (omega arith)) }
