-- `open_all` meets its contract: each turn opens one member and enters what it says. Assumes nothing.
use mathlib.Core.Path.{refl, ap, ◌∙◌}
use native.Mathlib.Omega.{arith}
use lib.ListN.{length-replicate}
use Rattle.sets.specs.Largest.{largest, fitting}
use Rattle.laws.proofs.Overwritten.{over_start, over_more, over_all}
use Rattle.run.specs.Protocol.{nobody}
use Rattle.execution.specs.Calls.{calls}
use Rattle.execution.proofs.OneRound.{all_opened, said_of}
use Rattle.execution.proofs.round.open_all.Goals as goal

pub loop-i-init : goal.loop-i-init
loop-i-init c =
    (c.fitting-size.ensures.fit, over_start c.blank_table-members.ensures.blanks, over_start refl, omega arith)

pub loop-i-preserved : goal.loop-i-preserved
loop-i-preserved c =
    let at = c.loop-i in
    let inv = at.invariant in
    let long = length-replicate largest nobody in
    let opened = c.opened-first in
    let state = opened.ensures.state ∙ ap (calls.opening _ _ _) c.entry_at.ensures.entry in (
      inv.0,
      over_more (omega arith) inv.1 state,
      over_more (omega arith) inv.2 (opened.result.said ∙ ap calls.says state),
      inv.3,
    )

pub returns : goal.returns
returns c =
    let a = c.args in
    let at = c.loop-i in
    let opens = all_opened calls a.n a.t a.votes.now at.invariant.0 (omega arith) at.invariant.1 in record { opened = opens; said = said_of calls (fitting a.n) _ opens (rw (← at.invariant.0) (over_all at.invariant.2 (omega arith))) }
