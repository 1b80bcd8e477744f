-- `are_answers_long` meets its contract: its tests are those of `answers_of`, in order. Assumes nothing.
use native.Mathlib.Omega.{arith}
use borrow.Author.Tests.{eq-eqb, ne_eqb}
use Rattle.schedule.specs.Questions.{answers_of}
use Rattle.acceptance.proofs.tables.are_answers_long.Goals as goal

pub returns-then-answers-n : goal.returns-then-answers-n
unfolding answers_of
returns-then-answers-n c =
    record { tested = let a = c.args in rw (ne_eqb a.answers.decisions a.n (λ e. omega arith)) }

pub returns : goal.returns
unfolding answers_of
returns c =
    record { tested = let a = c.args in rw (eq-eqb a.answers.decisions a.n (omega arith)) }
