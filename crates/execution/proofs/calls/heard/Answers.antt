-- `heard` meets its contract: the state after an accepted row, and the same state after a refused one. Assumes nothing.
use mathlib.Core.Path.{◌∙◌}
use Rattle.laws.proofs.Answer.{answer_given, answer_kept}
use Rattle.member.specs.declared.Member.{Member}
use Rattle.member.specs.Answers.{hear_answer}
use Rattle.execution.proofs.Turns.{heard_in_range}
use Rattle.execution.proofs.calls.heard.Goals as goal

pub returns-in_default : goal.returns-in_default
unfolding hear_answer
returns-in_default c =
    record { state = (answer_kept _ _ _ (λ (x : Member). x) _ c.in_default.ensures.answered).1 }

pub in_turn-requires : goal.in_turn-requires
in_turn-requires c =
    record { in_range = heard_in_range c.args.before.state c.args.row.now c.in-Ok.ensures.answered }

pub returns : goal.returns
unfolding hear_answer
returns c =
    record { state = c.in_turn.ensures.state ∙ (answer_given _ _ _ (λ (x : Member). x) _ c.in-Ok.ensures.answered).1 }
