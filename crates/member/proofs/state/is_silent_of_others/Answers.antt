-- `is_silent_of_others` meets its contract. Assumes nothing.
use native.Mathlib.Omega.{arith}
use Rattle.member.specs.State.{silent_others}
use Rattle.member.proofs.state.is_silent_of_others.Goals as goal

pub overflow_sub-m : goal.overflow_sub-m
overflow_sub-m c =
    omega (arith, c.requires.id)

pub returns : goal.returns
unfolding silent_others
returns c =
    record { tested = c.is_of_others.ensures.tested }
