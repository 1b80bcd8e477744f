-- `hear` meets its contract. Assumes nothing.
use Rattle.laws.proofs.Refusals.{is_refused}
use Rattle.sets.specs.Largest.{largest}
use Rattle.member.specs.Answers.{hear_answer}
use Rattle.hearing.proofs.Asked.{row_accepted}
use Rattle.hearing.proofs.hear.Goals as goal

pub returns-in-Ok : goal.returns-in-Ok
returns-in-Ok c =
    record { answered = row_accepted largest _ _ c.in-Ok.ensures.asked c.in-Ok.heard c.in-Ok.ensures.same _ _ c.next-next.ensures.went c.silent_after-set.ensures.left _ c.with_silent.ensures.is }

pub returns-in-Err : goal.returns-in-Err
unfolding hear_answer
returns-in-Err c =
    record { answered = rw c.refused_by.ensures.is (is_refused _ _ _ _ c.in-Err.ensures.asked) }
