-- `explain` meets its contract. Assumes nothing.
use Rattle.std.proofs.Common.{ap, ◌∙◌}
use mathlib.Core.Path.{ap₂}
use Rattle.std.proofs.lemmas.Result.{err_from_is_err_and}
use Rattle.laws.specs.Answer.{accepted}
use Rattle.laws.proofs.Refusals.{is_refused, is_accepted}
use Rattle.member.specs.declared.Reason.{Reason}
use Rattle.member.specs.Reasons.{reason_heard}
use Rattle.member.specs.Answers.{explain_answer}
use Rattle.hearing.proofs.explain.Goals as goal

pub returns-in_err-heard : goal.returns-in_err-heard
unfolding explain_answer
returns-in_err-heard c =
    let p = err_from_is_err_and c.from_residual.result c.from_residual.ensures.1 in
    record { answered = rw (p.1, p.2) (is_refused _ _ _ _ c.in_err-heard.ensures.asked) }

pub returns : goal.returns
unfolding explain_answer
returns c =
    let same = c.in_ok-heard.ensures.same in
    record { answered = ap (λ (x : Reason). accepted x) (c.reason.ensures.is ∙ ap₂ reason_heard same.0 same.1) ∙ is_accepted _ _ _ c.in_ok-heard.ensures.asked }
