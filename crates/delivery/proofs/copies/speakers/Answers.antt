-- `speakers` meets its contract: each turn counts one code. Assumes nothing.
use native.Mathlib.Omega.{arith}
use Rattle.laws.proofs.Below.{count_none, count_step, count_room}
use Rattle.delivery.proofs.copies.speakers.Goals as goal

pub loop-code-init : goal.loop-code-init
loop-code-init c =
    (count_none _, omega arith)

pub loop-code-preserved : goal.loop-code-preserved
loop-code-preserved c =
    let room = count_room _ _ _ _ c.loop-code.invariant.0 c.bit-speaking.ensures.counted in (count_step _ _ _ _ c.loop-code.invariant.0 c.bit-speaking.ensures.counted, omega arith)
