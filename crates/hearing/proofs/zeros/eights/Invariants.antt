-- `eights` meets its contract: the set is that of the first i places, and i is a multiple of 8. Assumes nothing.
use mathlib.Core.Path.{◌≡◌}
use Prim.Native.Nat.{◌-◌, ◌%◌, ◌≤◌}
use lib.ListN.{length}
use Rattle.sets.specs.Sets.{set_of}
use Rattle.hearing.proofs.Places.{silent}
use Rattle.hearing.proofs.zeros.eights.Given as goal

abbrev pub invariant-loop-i : goal.invariant-loop-i
invariant-loop-i l = (l.i ≤ length l.row.codes.now) × (l.i % 8 ≡ 0) × (l.set ≡ set_of l.i (silent l.row.codes.now))

abbrev pub decreases-loop-i : goal.decreases-loop-i
decreases-loop-i l = length l.row.codes.now - l.i
