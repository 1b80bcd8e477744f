-- `size_question` meets its contract: where question 1 is passed, question 2 is asked. Assumes nothing.
use mathlib.Core.Path.{◌≡◌}
use mathlib.Core.Bool.{true, false}
use Prim.Native.Nat.{◌-◌}
use native.Mathlib.Omega.{arith}
use Rattle.laws.specs.Test.{within}
use Rattle.laws.specs.Answer.{ask}
use Rattle.laws.proofs.Test.{was_false, was_true, within_low}
use Rattle.sets.specs.Largest.{largest}
use Rattle.member.proofs.limits.size_question.Goals as goal
use Rattle.member.proofs.limits.size_question.Goals.{Else-not-is_within}

pub returns-then-not-is_within : goal.returns-then-not-is_within
unfolding ask
returns-then-not-is_within c =
    record {
      asked = let a = c.args in
          let h1 : within 4 a.n largest ≡ false = was_false c.is_within.ensures.tested c.if-not-is_within.true in
          rw h1;
    }

-- question 1 is passed
n_within : (c : Else-not-is_within) → within 4 c.args.n largest ≡ true
n_within c = was_true c.is_within.ensures.tested c.if-not-is_within.false

pub overflow_sub-below : goal.overflow_sub-below
overflow_sub-below c =
    omega (arith, within_low _ _ _ (n_within c))

pub returns-then-not-is_within-2 : goal.returns-then-not-is_within-2
unfolding ask
returns-then-not-is_within-2 c =
    record {
      asked = let a = c.args in
          let h1 : within 4 a.n largest ≡ true = n_within c.before.before in
          let h2 : within 3 a.t (a.n - 1) ≡ false = was_false c.is_within-2.ensures.tested c.if-not-is_within-2.true in
          rw (h1, h2);
    }

pub returns : goal.returns
unfolding ask
returns c =
    record {
      asked = let a = c.args in
          let h1 : within 4 a.n largest ≡ true = n_within c.before.before in
          let h2 : within 3 a.t (a.n - 1) ≡ true = was_true c.is_within-2.ensures.tested c.if-not-is_within-2.false in
          rw (h1, h2);
    }
