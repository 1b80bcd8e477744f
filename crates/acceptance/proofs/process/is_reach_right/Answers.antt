-- `is_reach_right` meets its contract: its tests are those of `reach_right`, in order. Assumes nothing.
use mathlib.Core.Path.{◌≡◌}
use mathlib.Core.Bool.{true, false}
use native.Mathlib.Omega.{arith}
use borrow.Author.Tests.{eq-eqb, ne_eqb}
use Rattle.laws.proofs.Test.{was_false, was_true}
use Rattle.sets.specs.Sets.{names_others}
use Rattle.schedule.specs.Questions.{reach_right}
use Rattle.acceptance.proofs.process.is_reach_right.Goals as goal
use Rattle.acceptance.proofs.process.is_reach_right.Goals.{Else-not-is_of_others}

pub returns-then-not-is_of_others : goal.returns-then-not-is_of_others
unfolding reach_right
returns-then-not-is_of_others c =
    record {
      tested = let a = c.args in
          let h1 : names_others a.n a.i a.reach ≡ false = was_false c.is_of_others.ensures.tested c.if-not-is_of_others.true in
          rw h1;
    }

-- the reach names only others
of_others : (c : Else-not-is_of_others) → let a = c.args in names_others a.n a.i a.reach ≡ true
of_others c = was_true c.is_of_others.ensures.tested c.if-not-is_of_others.false

pub returns-then-crash-ne0 : goal.returns-then-crash-ne0
unfolding reach_right
returns-then-crash-ne0 c =
    record {
      tested = let a = c.args in
          let h1 : names_others a.n a.i a.reach ≡ true = of_others (goal.at.returns-then-crash-ne0 c).Else-not-is_of_others in
          rw (h1, ne_eqb a.crash 0 (λ e. omega arith));
    }

pub returns : goal.returns
unfolding reach_right
returns c =
    record {
      tested = let a = c.args in
          let h1 : names_others a.n a.i a.reach ≡ true = of_others (goal.at.returns c).Else-not-is_of_others in
          rw (h1, eq-eqb a.crash 0 (omega arith));
    }
