-- `is_of_others` meets its contract: its two tests are those of `names_others`. Assumes nothing.
use Rattle.sets.proofs.is_of_others.Goals as goal

pub returns-then-is_up_to : goal.returns-then-is_up_to
returns-then-is_up_to c =
    record { tested = simp (← c.is_up_to.ensures.tested, c.if-is_up_to.true, c.is_named.ensures.tested) }

pub returns-else-is_up_to : goal.returns-else-is_up_to
returns-else-is_up_to c =
    record { tested = simp (← c.is_up_to.ensures.tested, c.if-is_up_to.false) }
