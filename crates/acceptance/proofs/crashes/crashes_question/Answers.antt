-- `crashes_question` meets its contract: the count that ends sooner is at most t exactly where the whole one is. Assumes nothing.
use Rattle.std.proofs.Common.{◌≡◌, ℕ, sym, ap, ◌∙◌, length}
use native.Mathlib.Omega.{arith}
use borrow.Author.Tests.{le-leb, lt-leb}
use lib.Dec.{leb}
use Rattle.laws.specs.Answer.{ask}
use Rattle.schedule.specs.Schedule.{crashes_in}
use Rattle.schedule.proofs.Counting.{count_facts}
use Rattle.acceptance.proofs.crashes.crashes_question.Goals as goal
use Rattle.acceptance.proofs.crashes.crashes_question.Goals.{After-crash_count-counted}

-- what the question asks of the whole count, the count that was made tells
few : (c : After-crash_count-counted) → let a = c.args in leb (crashes_in (length a.crashes.now) a.crashes.now) a.t ≡ leb c.crash_count-counted.result.count a.t
few c =
    let a = c.args in
    (count_facts a.t a.crashes.now).asks_7 ∙ ap (λ (k : ℕ). leb k a.t) (sym c.crash_count-counted.ensures.counted)

pub returns-then-t-counted : goal.returns-then-t-counted
unfolding ask
returns-then-t-counted c =
    record { asked = rw (few (goal.at.returns-then-t-counted c).After-crash_count-counted, lt-leb c.crash_count-counted.result.count c.args.t (omega arith)) }

pub returns : goal.returns
unfolding ask
returns c =
    record { asked = rw (few (goal.at.returns c).After-crash_count-counted, le-leb c.crash_count-counted.result.count c.args.t (omega arith)) }
