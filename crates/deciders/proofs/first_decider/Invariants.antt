-- `first_decider` meets its contract: after i places its variable is the first decider of the first i processes. Assumes nothing.
use mathlib.Core.Path.{◌≡◌}
use lib.ListN.{get_or}
use Rattle.laws.specs.Below.{fold}
use Rattle.run.specs.Report.{first_with}
use Rattle.deciders.proofs.first_decider.Given as goal

abbrev pub invariant-loop-i : goal.invariant-loop-i
invariant-loop-i l = l.first ≡ fold l.i (first_with (λ j. get_or l.crashes j 0) (λ j. get_or l.rounds j 0)) 0
