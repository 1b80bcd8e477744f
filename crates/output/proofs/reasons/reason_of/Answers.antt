-- `reason_of` meets its contract: an accepted schedule is not refused, and neither is the number of one of its processes, so `explain` gives the reason.
-- Assumes nothing.
use Rattle.std.proofs.Common.{◌≡◌, sym, ap, ◌∙◌}
use Rattle.std.specs.Prelude.{Ok, is_ok}
use native.Mathlib.Omega.{arith}
use Rattle.laws.specs.Question.{answer_is}
use Rattle.laws.proofs.Answer.{value_or}
use Rattle.laws.proofs.Refusals.{ok_of}
use Rattle.sets.specs.Largest.{largest}
use Rattle.schedule.specs.Schedule.{schedule_lent}
use Rattle.run.specs.Why.{why_of}
use Rattle.output.proofs.Given.{n_small, reason_given}
use Rattle.output.proofs.reasons.reason_of.Goals as goal
use Rattle.output.proofs.reasons.reason_of.Goals.{After-explain}

-- the reason that `explain` gives
because : (c : After-explain) → let a = c.args in c.explain.result ≡ Ok (why_of (schedule_lent a.schedule.now.tables) a.i)
because c =
    let a = c.args in
    ok_of _ (c.explain.ensures.explained.answered ∙ reason_given largest _ a.i a.schedule.now.accepted c.requires.process)

pub overflow_add-i : goal.overflow_add-i
overflow_add-i c =
    let small = n_small _ largest _ c.args.schedule.now.accepted in
    let below = c.requires.process in
    omega arith

pub unwrap-requires : goal.unwrap-requires
unwrap-requires c = ap is_ok (because c)

pub returns : goal.returns
returns c =
    record { reason = ap (value_or c.unwrap.result) (ap answer_is (sym c.unwrap.ensures ∙ because (goal.at.returns c).After-explain)) }
