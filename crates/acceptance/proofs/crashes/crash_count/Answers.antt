-- `crash_count` meets its contract: after i places the count is that of the crash rounds among the first i that are not 0, and as long as it is at most t
-- the loop goes on; once it is more, the process before place i is the one at which it ends. Assumes nothing.
use mathlib.Core.Path.{◌≡◌, ap, sym, ◌∙◌}
use mathlib.Core.Logic.{inl, inr}
use Prim.Native.Nat.{ℕ}
use native.Mathlib.Omega.{arith}
use lib.ListN.{length}
use Rattle.laws.proofs.Below.{count_none, count_room}
use Rattle.schedule.specs.Schedule.{crashes_in}
use Rattle.schedule.specs.Counting.{looked_at}
use Rattle.schedule.proofs.Counting.{ends_never, counted_up_to, counts_on, goes_on}
use Rattle.acceptance.proofs.crashes.crash_count.Goals as goal

pub loop-i-init : goal.loop-i-init
unfolding crashes_in
loop-i-init c =
    (count_none _, inl (omega arith))

-- there are more than t crashes
pub returns-then-t-count : goal.returns-then-t-count
returns-then-t-count c =
    let a = c.args in
    let here = c.loop-i in
    let end : here.i ≡ looked_at a.t a.crashes.now = elim here.invariant.1 [ inl few ↦ absurd (omega arith) | inr end ↦ end ] in
    record { counted = here.invariant.0 ∙ counted_up_to a.t a.crashes.now here.i end; looked_at = end }

-- the count is at most the places passed
pub overflow_add-count : goal.overflow_add-count
unfolding crashes_in
overflow_add-count c =
    omega (arith, count_room _ _ _ _ c.loop-i.invariant.0 c.bit.ensures.counted)

pub loop-i-preserved : goal.loop-i-preserved
loop-i-preserved c =
    let a = c.args in
    let here = c.loop-i in (
      counts_on a.t a.crashes.now _ _ _ here.invariant.0 c.bit.ensures.counted,
      goes_on a.t a.crashes.now _ _ _ here.invariant.0 c.bit.ensures.counted (omega arith) c.if-t-count.false,
    )

-- all are looked at
pub returns : goal.returns
returns c =
    let a = c.args in
    let here = c.loop-i in
    let all : here.i ≡ length a.crashes.now = omega arith in
    let counted = here.invariant.0 ∙ ap (λ (k : ℕ). crashes_in k a.crashes.now) all in
    let end : length a.crashes.now ≡ looked_at a.t a.crashes.now =
    elim here.invariant.1 [
      | inl few ↦ ends_never a.t a.crashes.now (omega arith)
      | inr end ↦ sym all ∙ end
    ] in
    record { counted = counted ∙ counted_up_to a.t a.crashes.now (length a.crashes.now) end; looked_at = end }
