-- `write` meets its contract: it refuses by the first question whose answer is no, the last of which goes by the length of the text, and writes the text
-- where there is none. Assumes nothing.
use Rattle.std.proofs.Common.{rules, ◌≡◌, ℕ, List, sym, ap, ◌∙◌, length}
use Rattle.std.proofs.lemmas.Result.{err_from_is_err_and}
use Rattle.std.specs.Prelude.{Result}
use mathlib.Core.Path.{subst}
use native.Mathlib.Omega.{arith}
use Rattle.laws.specs.declared.question.Question.{Question}
use Rattle.laws.proofs.Refusals.{ended}
use Rattle.sets.specs.Largest.{largest}
use Rattle.schedule.specs.Schedule.{Schedule, schedule_lent}
use Rattle.schedule.specs.Questions.{question}
use Rattle.text.specs.Written.{text_of}
use Rattle.text.proofs.Decimals.{text_long}
use Rattle.writer.specs.Answers.{write_question, WritesSchedule}
use Rattle.writer.proofs.Asked.{too_short, refuses, writes}
use Rattle.writer.proofs.write.Goals as goal
use Rattle.writer.proofs.write.Goals.{After-text_length}

-- a question of the schedule has the answer no; the call takes no answer tables
pub returns-in_err-schedule : goal.returns-in_err-schedule
unfolding write_question
returns-in_err-schedule c =
    let p = err_from_is_err_and c.from_residual.result c.from_residual.ensures.1 in
    let s = schedule_lent c.args.tables.now in
    let e = c.in_err-schedule.ensures.asked ∙ ap (question s largest) c.no_answers.ensures.long in
    record { written = rw (p.1, p.2) (refuses s _ _ (ended _ _ _ e)) }

-- the schedule that was accepted is the one that was lent
of_lent : {given s : Schedule} {buffer after : List ℕ} {r : Result ℕ Question} → given ≡ s → WritesSchedule given buffer r after → WritesSchedule s buffer r after
of_lent {buffer = buffer} {after} {r} same h = subst (λ (s : Schedule). WritesSchedule s buffer r after) same h

-- the length of its text
its_length : (c : After-text_length) → c.text_length.result ≡ length (text_of (schedule_lent c.in_ok-schedule.schedule.tables))
its_length c = c.text_length.ensures.is ∙ sym (text_long (schedule_lent c.in_ok-schedule.schedule.tables))

pub returns-then-buffer-text_length : goal.returns-then-buffer-text_length
returns-then-buffer-text_length c =
    let given = c.in_ok-schedule.schedule in
    let long = its_length (goal.at.returns-then-buffer-text_length c).After-text_length in
    let q = too_short largest (schedule_lent given.tables) c.args.buffer.now given.accepted (omega arith) in
    record { written = of_lent c.in_ok-schedule.ensures.same (refuses _ _ _ (sym q)) }

pub returns : goal.returns
returns c =
    let lent = c.in_ok-schedule.schedule in
    let long = its_length (goal.at.returns c).After-text_length in
    record { written = of_lent c.in_ok-schedule.ensures.same (writes (schedule_lent lent.tables) _ lent.accepted (omega arith) (search rules)) }
