-- `next_turn` meets its contract: its tests are those of `state_after`. Assumes nothing.
use mathlib.Core.Path.{sym, ◌∙◌}
use Rattle.laws.proofs.Test.{was_false, was_true}
use Rattle.run.proofs.Rounds.{crashed_stays, stopped_stays, other_moves}
use Rattle.execution.specs.Calls.{calls}
use Rattle.execution.proofs.round.next_turn.Goals as goal

pub returns-then-not-completes : goal.returns-then-not-completes
returns-then-not-completes c =
    let a = c.args in
    record { state = sym (crashed_stays calls a.round a.crash a.before.state a.row.now (was_false c.completes.ensures.tested c.if-not-completes.true)) }

pub returns-then-is_stopped : goal.returns-then-is_stopped
returns-then-is_stopped c =
    let a = c.args in record { state = sym (stopped_stays calls a.round a.crash a.before.state a.row.now (sym c.is_stopped.ensures.tested ∙ c.if-is_stopped.true)) }

pub returns : goal.returns
returns c =
    let a = c.args in
    let completing = was_true c.completes.ensures.tested c.if-not-completes.false in record {
      state = c.heard.ensures.state
          ∙ sym (other_moves calls a.round a.crash a.before.state a.row.now completing (sym c.is_stopped.ensures.tested ∙ c.if-is_stopped.false));
    }
