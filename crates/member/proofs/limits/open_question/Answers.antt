-- `open_question` meets its contract: each question that is passed goes on to the next. Assumes nothing.
use Rattle.std.proofs.Common.{◌≡◌, ℕ, ◌∙◌, sym}
use Rattle.std.proofs.lemmas.Result.{err_from_is_err_and}
use native.Mathlib.Omega.{arith}
use borrow.Author.Tests.{le-leb, lt-leb}
use lib.Dec.{leb}
use Rattle.laws.specs.Test.{within}
use Rattle.laws.specs.Answer.{ask}
use Rattle.laws.proofs.Answer.{and_then_goes_on}
use Rattle.laws.proofs.Refusals.{ended}
use Rattle.sets.specs.Largest.{largest}
use Rattle.member.specs.Opening.{open_question}
use Rattle.member.proofs.Sizes.{sizes_first}
use Rattle.member.proofs.limits.open_question.Goals as goal
use Rattle.member.proofs.limits.open_question.Goals.{In_ok-size_question}

-- the questions after 1 and 2
abbrev others : ℕ → ℕ → ℕ → ℕ
others n id vote = ask (within 1 id n) 10 (ask (leb vote 1) 4 0)

pub returns-in_err-size_question : goal.returns-in_err-size_question
unfolding open_question
returns-in_err-size_question c =
    let p = err_from_is_err_and c.from_residual.result c.from_residual.ensures.1 in
    let a = c.args in
    record { asked = rw (p.1, p.2) (ended _ _ _ c.in_err-size_question.ensures.asked ∙ sym (sizes_first largest a.n a.t (others a.n a.id a.vote))) }

-- past the first two questions
past_sizes : (c : In_ok-size_question) → let a = c.args in open_question largest a.n a.t a.id a.vote ≡ others a.n a.id a.vote
unfolding open_question
past_sizes c =
    let a = c.args in
    sizes_first largest a.n a.t (others a.n a.id a.vote) ∙ and_then_goes_on _ _ (sym c.in_ok-size_question.ensures.asked)

pub returns-then-not-is_within : goal.returns-then-not-is_within
unfolding ask
returns-then-not-is_within c =
    record { asked = rw (past_sizes c.before.before, ← c.if-not-is_within.ensures.tested) }

pub returns-then-vote-gt1 : goal.returns-then-vote-gt1
unfolding ask
returns-then-vote-gt1 c =
    record { asked = rw (past_sizes c.before.before.before, ← c.if-not-is_within.ensures.tested, lt-leb c.args.vote 1 (omega arith)) }

pub returns : goal.returns
unfolding ask
returns c =
    record { asked = rw (past_sizes c.before.before.before, ← c.if-not-is_within.ensures.tested, le-leb c.args.vote 1 (omega arith)) }
