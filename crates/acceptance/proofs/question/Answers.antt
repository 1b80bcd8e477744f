-- `question` meets its contract: each question that is passed goes on to the next. Assumes nothing.
use Rattle.std.proofs.Common.{◌≡◌, ℕ, Bool, true, ◌&&◌, sym, refl, ap, ◌∙◌, length}
use Rattle.std.proofs.lemmas.Result.{err_from_is_err_and}
use lib.Dec.{leb}
use Rattle.laws.specs.Answer.{ask}
use Rattle.laws.proofs.Refusals.{not_zero}
use Rattle.laws.proofs.Test.{and_goes_on, and_no_left}
use Rattle.schedule.specs.Schedule.{Schedule, schedule_lent, crashes_in}
use Rattle.schedule.specs.Questions.{tables_long, answers_of}
use Rattle.schedule.proofs.Accepted.{table_lengths}
use Rattle.acceptance.proofs.InOrder.{number_of_sizes, number_3, number_of_process, past_processes}
use Rattle.acceptance.proofs.question.Goals as goal
use Rattle.acceptance.proofs.question.Goals.{Else-not-are_answers_long, Else-not-are_of_size, In_ok-size_question}

pub returns-in_err-size_question : goal.returns-in_err-size_question
returns-in_err-size_question c =
    let p = err_from_is_err_and c.from_residual.result c.from_residual.ensures.1 in
    record { asked = rw (p.1, p.2) (number_of_sizes (schedule_lent c.args.tables.now) _ _ _ c.in_err-size_question.ensures.asked (not_zero _)) }

-- the schedule that is asked about, past questions 1 and 2, and whether the answer tables are n long
abbrev given : In_ok-size_question → Schedule
given c = schedule_lent c.args.tables.now

abbrev answers : In_ok-size_question → Bool
answers c = let a = c.args in answers_of a.tables.now.n a.answers.decisions a.answers.rounds

pub returns-then-not-are_of_size : goal.returns-then-not-are_of_size
returns-then-not-are_of_size c =
    let at = (goal.at.returns-then-not-are_of_size c).In_ok-size_question in
    record { asked = number_3 (given at) _ _ _ c.in_ok-size_question.ensures.asked refl (and_no_left (tables_long (given at)) (answers at) (sym c.if-not-are_of_size.ensures.tested)) }

-- the three input tables are n long
tables : (c : Else-not-are_of_size) → tables_long (schedule_lent c.args.tables.now) ≡ true
tables c = sym c.if-not-are_of_size.ensures.tested

lengths : (c : Else-not-are_of_size) → let s = schedule_lent c.args.tables.now in (length s.votes ≡ s.n) × (length s.crashes ≡ s.n) × (length s.reaches ≡ s.n)
lengths c = table_lengths (schedule_lent c.args.tables.now) (tables c)

-- so number 3 goes by the answer tables
by_answers : (c : Else-not-are_of_size) → let at = (goal.at.Else-not-are_of_size c).In_ok-size_question in answers at ≡ (tables_long (given at) && answers at)
by_answers c =
    let at = (goal.at.Else-not-are_of_size c).In_ok-size_question in
    and_goes_on (tables_long (given at)) (answers at) (tables c)

pub returns-then-not-are_answers_long : goal.returns-then-not-are_answers_long
returns-then-not-are_answers_long c =
    let at = (goal.at.returns-then-not-are_answers_long c).Else-not-are_of_size in
    record { asked = number_3 (schedule_lent c.args.tables.now) _ _ _ c.in_ok-size_question.ensures.asked refl (sym (by_answers at) ∙ sym c.if-not-are_answers_long.ensures.tested) }

-- question 3 is passed
all_long : (c : Else-not-are_answers_long) → let at = (goal.at.Else-not-are_answers_long c).In_ok-size_question in (tables_long (given at) && answers at) ≡ true
all_long c = sym (by_answers (goal.at.Else-not-are_answers_long c).Else-not-are_of_size) ∙ sym c.if-not-are_answers_long.ensures.tested

pub processes_question-requires : goal.processes_question-requires
processes_question-requires c =
    record { long = lengths (goal.at.processes_question-requires c).Else-not-are_of_size }

pub returns-in_err-processes_question : goal.returns-in_err-processes_question
returns-in_err-processes_question c =
    let p = err_from_is_err_and c.from_residual-in_err-processes_question.result c.from_residual-in_err-processes_question.ensures.1 in
    record {
      asked = rw (p.1, p.2) (number_of_process (schedule_lent c.args.tables.now) _ _ _ c.in_ok-size_question.ensures.asked refl
          (all_long (goal.at.returns-in_err-processes_question c).Else-not-are_answers_long) _ c.in_err-processes_question.ensures.asked (not_zero _));
    }

-- past the first six questions the seventh is left, of the n entries of the table of crash rounds
pub returns : goal.returns
returns c =
    let s = schedule_lent c.args.tables.now in
    let at = goal.at.returns c in
    record {
      asked =
          c.crashes_question.ensures.asked
          ∙ ap (λ (n : ℕ). ask (leb (crashes_in n s.crashes) s.t) 7 0) (lengths at.Else-not-are_of_size).1
          ∙ sym (past_processes s _ _ _ c.in_ok-size_question.ensures.asked refl (all_long at.Else-not-are_answers_long) _ c.in_ok-processes_question.ensures.asked refl);
    }
