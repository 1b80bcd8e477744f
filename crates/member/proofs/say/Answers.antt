-- `say` meets its contract: in range a code is at most 4. Assumes nothing.
use mathlib.Core.Path.{ap}
use native.Mathlib.Omega.{arith}
use Rattle.laws.specs.Answer.{ask, answer, accepted}
use Rattle.laws.proofs.Test.{was_false, was_true}
use Rattle.member.specs.Questions.{say_question}
use Rattle.member.specs.Answers.{say_answer}
use Rattle.member.proofs.Range.{code_low}
use Rattle.member.proofs.say.Goals as goal

pub returns-then-not-is_in_range : goal.returns-then-not-is_in_range
unfolding say_answer say_question ask answer
returns-then-not-is_in_range c =
    record { answered = simp (was_false c.is_in_range.ensures.tested c.if-not-is_in_range.true) }

pub overflow_cast-result : goal.overflow_cast-result
overflow_cast-result c =
    let low = code_low _ _ (was_true c.is_in_range.ensures.tested c.if-not-is_in_range.false) in
    let is = c.code.ensures.said in
    omega arith

pub returns : goal.returns
unfolding say_answer say_question ask answer
returns c =
    record { answered = simp (was_true c.is_in_range.ensures.tested c.if-not-is_in_range.false) (ap accepted c.code.ensures.said) }
