-- `first_decider` meets its contract: after i places its variable is the first decider of the first i processes. Assumes nothing.
use native.Mathlib.Omega.{arith}
use Rattle.laws.proofs.Folds.{fold_none, fold_step, fold_end}
use Rattle.run.specs.Report.{first_of}
use Rattle.deciders.proofs.first_decider.Goals as goal

pub loop-i-init : goal.loop-i-init
loop-i-init c = fold_none _ 0

pub loop-i-preserved : goal.loop-i-preserved
loop-i-preserved c =
    let l = c.loop-i in fold_step _ 0 _ _ _ l.invariant c.first_with-first.ensures.found

pub returns : goal.returns
unfolding first_of
returns c =
    record { found = let l = c.loop-i in fold_end _ 0 _ _ _ l.invariant (omega arith) c.loop-i-test.false }
