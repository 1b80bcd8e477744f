-- `opened` meets its contract: the opened state, and nobody where the opening is refused. Assumes nothing.
use mathlib.Core.Path.{sym, ap, ◌∙◌}
use Rattle.laws.proofs.Answer.{answer_given, answer_kept}
use Rattle.member.specs.declared.Member.{Member}
use Rattle.run.specs.Protocol.{nobody}
use Rattle.member.specs.Answers.{open_answer}
use Rattle.execution.specs.Calls.{calls}
use Rattle.execution.proofs.Turns.{nobody_says, opened_in_range}
use Rattle.execution.proofs.calls.opened.Goals as goal

pub invariant_of-result : goal.invariant_of-result
invariant_of-result c =
    record { said = nobody_says ∙ ap calls.says (sym c.blank.ensures.is) }

pub returns-in_default : goal.returns-in_default
unfolding open_answer
returns-in_default c =
    record { state = c.blank.ensures.is ∙ (answer_kept _ _ _ (λ (x : Member). x) nobody c.in_default.ensures.answered).1 }

pub in_turn-requires : goal.in_turn-requires
in_turn-requires c =
    record { in_range = let a = c.args in opened_in_range a.n a.t a.id a.vote c.in-Ok.ensures.answered }

pub returns : goal.returns
unfolding open_answer
returns c =
    record { state = c.in_turn.ensures.state ∙ (answer_given _ _ _ (λ (x : Member). x) nobody c.in-Ok.ensures.answered).1 }
