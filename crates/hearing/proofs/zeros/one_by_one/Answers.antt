-- `one_by_one` meets its contract: the set is that of the first i places. Assumes nothing.
use mathlib.Core.Path.{◌≡◌, ◌∙◌}
use Prim.Native.Nat.{◌+◌, ◌*◌, ◌%◌, ◌^◌}
use native.Mathlib.Omega.{arith}
use Rattle.laws.proofs.Below.{sum_start}
use Rattle.sets.specs.Largest.{largest}
use Rattle.sets.specs.Sets.{set_of}
use Rattle.hearing.proofs.Places.{silent, room, added, single}
use Rattle.hearing.proofs.zeros.one_by_one.Goals as goal
use Rattle.hearing.proofs.zeros.one_by_one.Goals.{After-from}

pub loop-i-init : goal.loop-i-init
loop-i-init c =
    sum_start _

-- one place more
more : (c : After-from)
    → let l = c.loop-i in
    l.set + (c.from.result * 2 ^ l.i) % 2 ^ largest ≡ set_of (l.i + 1) (silent c.args.row.now.codes.now)
more c =
    let row = c.args.row.now.codes.now in
    let l = c.loop-i in
    added row l.i 1 l.set _ (omega arith) l.invariant (c.from.ensures ∙ c.bit.ensures.counted ∙ single row l.i)

pub overflow_add-set : goal.overflow_add-set
overflow_add-set c =
    let row = c.args.row.now.codes.now in
    omega (arith, more c, room row (c.loop-i.i + 1) (omega arith))

pub loop-i-preserved : goal.loop-i-preserved
loop-i-preserved c =
    more c
