-- `code` meets its contract: an estimate and 3 more are far from the largest number. Assumes nothing.
use borrow.Author.Tests.{eq-eqb, ne_eqb}
use Rattle.member.specs.Saying.{says}
use Rattle.member.proofs.state.code.Goals as goal

pub returns-then-is_stopped : goal.returns-then-is_stopped
unfolding says
returns-then-is_stopped c =
    record { said = simp (← c.is_stopped.ensures.tested, c.if-is_stopped.true) }

pub returns-then-m-eq0 : goal.returns-then-m-eq0
unfolding says
returns-then-m-eq0 c =
    record { said = simp (← c.is_stopped.ensures.tested, c.if-is_stopped.false, eq-eqb _ _ c.if-m-eq0.true) }

pub returns : goal.returns
unfolding says
returns c =
    record { said = simp (← c.is_stopped.ensures.tested, c.if-is_stopped.false, ne_eqb _ _ c.if-m-eq0.false) }
