-- `is_set` meets its contract: its tests are those of `sets_silent`, in order. Assumes nothing.
use borrow.Author.Tests.{eq-eqb, ne_eqb, le-leb, lt-leb}
use Rattle.member.specs.Hearing.{sets_silent}
use Rattle.hearing.proofs.silent.is_set.Goals as goal

pub returns-then-m-ne0 : goal.returns-then-m-ne0
unfolding sets_silent
returns-then-m-ne0 c =
    record { tested = rw (ne_eqb _ 0 c.if-m-ne0.true) }

pub returns-then-m-lt2 : goal.returns-then-m-lt2
unfolding sets_silent
returns-then-m-lt2 c =
    record { tested = rw (eq-eqb _ 0 c.if-m-ne0.false, lt-leb 2 _ c.if-m-lt2.true) }

pub returns : goal.returns
unfolding sets_silent
returns c =
    record { tested = rw (eq-eqb _ 0 c.if-m-ne0.false, le-leb 2 _ c.if-m-lt2.false, c.is_told.ensures.tested) }
