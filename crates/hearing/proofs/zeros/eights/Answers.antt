-- `eights` meets its contract: the set is that of the first i places, and i is a multiple of 8. Assumes nothing.
use mathlib.Core.Path.{◌≡◌}
use Prim.Native.Nat.{◌+◌, ◌*◌, ◌%◌, ◌^◌}
use native.Mathlib.Omega.{arith}
use Rattle.laws.proofs.Below.{sum_start}
use Rattle.sets.specs.Largest.{largest}
use Rattle.sets.specs.Sets.{set_of}
use Rattle.hearing.proofs.Places.{silent, room, added}
use Rattle.hearing.proofs.zeros.eights.Goals as goal
use Rattle.hearing.proofs.zeros.eights.Goals.{After-eight}

pub loop-i-init : goal.loop-i-init
loop-i-init c =
    (omega arith, omega arith, sum_start _)

-- eight places more
more : (c : After-eight)
    → let l = c.loop-i in
    l.set + (c.eight.result * 2 ^ l.i) % 2 ^ largest ≡ set_of (l.i + 8) (silent c.args.row.now.codes.now)
more c =
    let l = c.loop-i in
    added c.args.row.now.codes.now l.i 8 l.set _ (omega arith) l.invariant.2 c.eight.ensures.gathered

pub overflow_add-set : goal.overflow_add-set
overflow_add-set c =
    omega (arith, more c, room c.args.row.now.codes.now (c.loop-i.i + 8) (omega arith))

pub loop-i-preserved : goal.loop-i-preserved
loop-i-preserved c =
    (omega arith, omega arith, more c)
