-- `put_reasons` meets its contract: after i processes their lines are written. The number in each fits a byte, since the reason has one. Assumes nothing.
use mathlib.Core.Path.{◌≡◌, ap}
use Prim.Native.Nat.{◌+◌, ◌<◌}
use native.Mathlib.Omega.{arith}
use borrow.Author.Count.{below_none, below_more}
use borrow.Author.Rules.{rules}
use Rattle.schedule.specs.Schedule.{schedule_lent}
use Rattle.member.specs.declared.Reason.{Reason}
use Rattle.run.specs.Why.{why_of}
use Rattle.text.specs.Output.{reason_line}
use Rattle.text.proofs.Lines.{no_lines, one_more_line}
use Rattle.buffer.proofs.Puts.{puts_none, puts_same, puts_more}
use Rattle.output.proofs.reasons.put_reasons.Goals as goal

pub loop-i-init : goal.loop-i-init
loop-i-init c =
    (puts_same (no_lines _) (puts_none _), below_none _)

pub loop-i-preserved : goal.loop-i-preserved
loop-i-preserved c =
    let s = schedule_lent c.args.schedule.now.tables in
    let i = c.loop-i.i in
    let r = c.reason_of in
    let same : r.result ≡ why_of s i = r.ensures.reason in
    let number : r.result.number ≡ (why_of s i).number = ap (λ (why : Reason). why.number) same in
    let small : r.result.number < 256 = search rules in
    let line = puts_same (ap (reason_line (i + 1)) same) c.put_reason.ensures.written in
    (puts_same (one_more_line _ i) (puts_more _ _ c.loop-i.invariant.0 line), below_more _ _ c.loop-i.invariant.1 (omega arith))
