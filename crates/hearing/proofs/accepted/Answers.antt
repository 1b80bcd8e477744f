-- `accepted` meets its contract: each question that is passed goes on to the next. Assumes nothing.
use Rattle.std.proofs.Common.{◌≡◌, sym, refl, ◌∙◌, true, false}
use Rattle.std.proofs.lemmas.Result.{err_from_is_err_and}
use native.Mathlib.Omega.{arith}
use borrow.Author.Tests.{ne_eqb}
use Rattle.laws.specs.Answer.{ask}
use Rattle.sets.specs.Largest.{largest}
use Rattle.member.specs.State.{in_range, stopped}
use Rattle.member.specs.Questions.{hear_question}
use Rattle.member.proofs.Range.{in_range_ranged}
use Rattle.hearing.proofs.Asked.{say_first, say_in_range, say_code, all_codes, asks_row}
use Rattle.hearing.proofs.accepted.Goals as goal
use Rattle.hearing.proofs.accepted.Goals.{In_ok-says, In_ok-row_question}

pub returns-in_err-says-clause-asked : goal.returns-in_err-says-clause-asked
returns-in_err-says-clause-asked c =
    let p = err_from_is_err_and c.from_residual.result c.from_residual.ensures.1 in
    rw (p.1, p.2) (say_first largest _ c.args.row.now c.in_err-says.ensures.answered)

ranges : (c : In_ok-says) → in_range largest c.args.m ≡ true
ranges c = say_in_range largest _ c.in_ok-says.ensures.answered

pub returns-then-is_stopped-clause-asked : goal.returns-then-is_stopped-clause-asked
unfolding hear_question ask
returns-then-is_stopped-clause-asked c =
    simp (ranges (goal.at.returns-then-is_stopped-clause-asked c).In_ok-says, ← c.if-is_stopped.ensures.tested)

pub returns-then-row-m-clause-asked : goal.returns-then-row-m-clause-asked
unfolding hear_question ask
returns-then-row-m-clause-asked c =
    simp (ranges (goal.at.returns-then-row-m-clause-asked c).In_ok-says, ← c.if-is_stopped.ensures.tested, ne_eqb _ _ c.if-row-m.true)

pub overflow_sub-place : goal.overflow_sub-place
overflow_sub-place c =
    omega (arith, in_range_ranged _ _ (ranges (goal.at.overflow_sub-place c).In_ok-says))

pub bounds-row-place : goal.bounds-row-place
bounds-row-place c =
    omega (arith, in_range_ranged _ _ (ranges (goal.at.bounds-row-place c).In_ok-says), c.if-row-m.false)

pub returns-in_err-row_question-clause-asked : goal.returns-in_err-row_question-clause-asked
returns-in_err-row_question-clause-asked c =
    let p = err_from_is_err_and c.from_residual-in_err-row_question.result c.from_residual-in_err-row_question.ensures.1 in
    let at = (goal.at.returns-in_err-row_question-clause-asked c).In_ok-says in
    rw (p.1, p.2) (c.in_err-row_question.ensures.asked _ refl (say_code largest _ at.in_ok-says.ensures.answered) ∙ sym (asks_row largest _ _ (ranges at) (sym c.if-is_stopped.ensures.tested) c.if-row-m.false _ c.tally-counts.ensures.counted))

-- every question is answered by yes, where the member is not stopped
passed : (c : In_ok-row_question) → stopped c.args.m ≡ false → 0 ≡ hear_question largest c.args.m c.args.row.now
passed c runs =
    let at = (goal.at.In_ok-row_question c).In_ok-says in
    c.in_ok-row_question.ensures.asked _ refl (say_code largest _ at.in_ok-says.ensures.answered) ∙ sym (asks_row largest _ _ (ranges at) runs c.if-row-m.false _ c.tally-counts.ensures.counted)

pub invariant_of-result : goal.invariant_of-result
invariant_of-result c =
    let at = goal.at.invariant_of-result c in
    let counted = c.tally-counts.ensures.counted in
    let every = passed at.In_ok-row_question (sym c.if-is_stopped.ensures.tested) in
    record { in_range = ranges at.In_ok-says; long = c.if-row-m.false; counted = counted; codes = all_codes largest _ _ (sym every) _ counted }

pub returns-clause-asked : goal.returns-clause-asked
returns-clause-asked c = passed (goal.at.returns-clause-asked c).In_ok-row_question (sym c.if-is_stopped.ensures.tested)
