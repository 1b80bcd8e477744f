-- `open` meets its contract. Assumes nothing.
use Rattle.std.proofs.Common.{sym}
use Rattle.std.proofs.lemmas.Result.{err_from_is_err_and}
use native.Mathlib.Omega.{arith}
use Rattle.laws.proofs.Refusals.{is_refused, is_accepted}
use Rattle.member.specs.Answers.{open_answer}
use Rattle.member.proofs.Range.{open_limits}
use Rattle.member.proofs.open.Goals as goal

pub returns-in_err-open_question : goal.returns-in_err-open_question
unfolding open_answer
returns-in_err-open_question c =
    let p = err_from_is_err_and c.from_residual.result c.from_residual.ensures.1 in
    record { answered = rw (p.1, p.2) (is_refused _ _ _ _ c.in_err-open_question.ensures.asked) }

pub overflow_cast-result : goal.overflow_cast-result
overflow_cast-result c =
    omega (arith, open_limits _ _ _ _ _ (sym c.in_ok-open_question.ensures.asked))

pub overflow_cast-result-2 : goal.overflow_cast-result-2
overflow_cast-result-2 c =
    omega (arith, open_limits _ _ _ _ _ (sym c.in_ok-open_question.ensures.asked))

pub overflow_cast-result-3 : goal.overflow_cast-result-3
overflow_cast-result-3 c =
    omega (arith, open_limits _ _ _ _ _ (sym c.in_ok-open_question.ensures.asked))

pub returns : goal.returns
unfolding open_answer
returns c =
    record { answered = is_accepted _ _ _ c.in_ok-open_question.ensures.asked }
