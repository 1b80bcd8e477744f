-- `one_by_one` meets its contract: the set is that of the first i places. Assumes nothing.
use mathlib.Core.Path.{◌≡◌}
use Rattle.sets.specs.Sets.{set_of}
use Rattle.hearing.proofs.Places.{silent}
use Rattle.hearing.proofs.zeros.one_by_one.Given as goal

abbrev pub invariant-loop-i : goal.invariant-loop-i
invariant-loop-i l = l.set ≡ set_of l.i (silent l.row.codes.now)
