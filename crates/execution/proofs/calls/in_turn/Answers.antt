-- `in_turn` meets its contract: what a member in range says is one of the codes, and is not refused. Assumes nothing.
use mathlib.Core.Path.{◌∙◌}
use native.Mathlib.Omega.{arith}
use Rattle.member.proofs.Range.{code_low}
use Rattle.sets.specs.Largest.{largest}
use Rattle.execution.proofs.Turns.{in_range_says}
use Rattle.execution.proofs.calls.in_turn.Goals as goal

pub overflow_cast-result : goal.overflow_cast-result
overflow_cast-result c =
    let low = code_low largest c.args.m c.requires.in_range in
    let is = c.code.ensures.said in
    omega arith

pub invariant_of-result : goal.invariant_of-result
invariant_of-result c =
    record { said = c.code.ensures.said ∙ in_range_says c.args.m c.requires.in_range }
