-- `is_in_limits` meets its contract. Assumes nothing.
use Prim.Native.Nat.{ℕ}
use lib.Dec.{eqb}
use mathlib.Core.Path.{ap, ◌∙◌}
use Rattle.laws.proofs.Refusals.{passes}
use Rattle.member.specs.State.{in_limits}
use Rattle.member.proofs.state.is_in_limits.Goals as goal

pub returns : goal.returns
unfolding in_limits
returns c =
    record { tested = c.is_ok.ensures.value ∙ passes c.open_question.result ∙ ap (λ (q : ℕ). eqb q 0) c.open_question.ensures.asked }
