-- `pair_in` meets its contract: after i places each count is that of the first i codes. Assumes nothing.
use mathlib.Core.Path.{refl}
use native.Mathlib.Omega.{arith}
use Rattle.laws.proofs.Below.{count_none, count_step, count_room}
use Rattle.hearing.proofs.Counted.{counted_all}
use Rattle.hearing.proofs.codes.pair_in.Goals as goal

pub loop-heard-init : goal.loop-heard-init
loop-heard-init c =
    (refl, record { first = count_none _; second = count_none _; third = count_none _ })

pub overflow_add-lower : goal.overflow_add-lower
overflow_add-lower c =
    let l = c.loop-heard in omega (arith, count_room _ _ _ _ l.invariant.1.first c.bit-lower.ensures.counted)

pub overflow_add-upper : goal.overflow_add-upper
overflow_add-upper c =
    let l = c.loop-heard in omega (arith, count_room _ _ _ _ l.invariant.1.second c.bit-upper.ensures.counted)

pub overflow_add-above : goal.overflow_add-above
overflow_add-above c =
    let l = c.loop-heard in omega (arith, count_room _ _ _ _ l.invariant.1.third c.bit-above.ensures.counted)

pub loop-heard-preserved : goal.loop-heard-preserved
loop-heard-preserved c =
    let k = c.loop-heard.invariant.1 in (
      c.loop-heard.invariant.0,
      record {
        first = count_step _ _ _ _ k.first c.bit-lower.ensures.counted;
        second = count_step _ _ _ _ k.second c.bit-upper.ensures.counted;
        third = count_step _ _ _ _ k.third c.bit-above.ensures.counted;
      },
    )

pub returns : goal.returns
returns c =
    let at = c.loop-heard in
    let all = counted_all _ _ _ _ _ _ _ _ at.invariant.1 (omega arith) (omega arith) in
    record { lower = all.0; upper = rw (← at.invariant.0) all.1.0; above = rw (← at.invariant.0) all.1.1 }
