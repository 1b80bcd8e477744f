-- `is_in_range` meets its contract: its tests are those of `inRange`, in order. Assumes nothing.
use mathlib.Core.Path.{◌≡◌}
use mathlib.Core.Bool.{true, false}
use Rattle.laws.proofs.Test.{was_false, was_true}
use Rattle.sets.specs.Largest.{largest}
use Rattle.member.specs.State.{in_limits, placed, in_range}
use Rattle.member.proofs.Range.{limits_of}
use Rattle.member.proofs.state.is_in_range.Goals as goal
use Rattle.member.proofs.state.is_in_range.Goals.{Else-not-is_in_limits}

pub returns-then-not-is_in_limits : goal.returns-then-not-is_in_limits
unfolding in_range
returns-then-not-is_in_limits c =
    record {
      tested = let h1 : in_limits largest c.args.m ≡ false = was_false c.is_in_limits.ensures.tested c.if-not-is_in_limits.true in
          rw h1;
    }

-- within its limits
limits_kept : (c : Else-not-is_in_limits) → in_limits largest c.args.m ≡ true
limits_kept c = was_true c.is_in_limits.ensures.tested c.if-not-is_in_limits.false

pub returns-then-not-is_placed : goal.returns-then-not-is_placed
unfolding in_range
returns-then-not-is_placed c =
    record {
      tested = let a = c.args in
          let h1 : in_limits largest a.m ≡ true = limits_kept c.before.before in
          let h2 : placed a.m ≡ false = was_false c.is_placed.ensures.tested c.if-not-is_placed.true in
          rw (h1, h2);
    }

pub is_silent_of_others-requires : goal.is_silent_of_others-requires
is_silent_of_others-requires c =
    record { id = (limits_of largest _ (limits_kept c.before.before)).id_low }

pub returns : goal.returns
unfolding in_range
returns c =
    record {
      tested = let a = c.args in
          let h1 : in_limits largest a.m ≡ true = limits_kept c.before.before.before in
          let h2 : placed a.m ≡ true = was_true c.is_placed.ensures.tested c.if-not-is_placed.false in
          rw (h1, h2) c.is_silent_of_others.ensures.tested;
    }
