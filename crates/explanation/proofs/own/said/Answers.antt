-- `said` meets its contract: the code that is said, and nothing where the saying is refused. Assumes nothing.
use mathlib.Core.Path.{◌∙◌}
use Rattle.laws.proofs.Refusals.{value_or_kept}
use Rattle.member.specs.Answers.{say_answer}
use Rattle.explanation.proofs.own.said.Goals as goal

pub returns : goal.returns
unfolding say_answer
returns c =
    record { is = c.unwrap_or.ensures ∙ value_or_kept c.say.result _ _ _ c.say.ensures.answered }
