-- `accepts` meets its contract: it is a call that takes no answer tables. Assumes nothing.
use Rattle.std.proofs.Common.{refl, ap, ◌∙◌}
use Rattle.laws.proofs.Refusals.{answer_due}
use Rattle.sets.specs.Largest.{largest}
use Rattle.schedule.specs.Schedule.{schedule_lent}
use Rattle.schedule.specs.Questions.{question}
use Rattle.acceptance.specs.Answers.{accept_answer}
use Rattle.acceptance.proofs.accepts.Goals as goal

pub returns : goal.returns
unfolding accept_answer
returns c =
    let s = schedule_lent c.args.tables.now in
    record { answered = answer_due _ _ tt (c.question.ensures.asked ∙ ap (question s largest) c.no_answers.ensures.long) (λ x e. refl) }
