-- `process_question` meets its contract: each question that is passed goes on to the next. Assumes nothing.
use mathlib.Core.Path.{◌≡◌}
use mathlib.Core.Bool.{true, false}
use Prim.Native.Nat.{◌+◌}
use native.Mathlib.Omega.{arith}
use borrow.Author.Tests.{le-leb, lt-leb}
use lib.Dec.{leb}
use Rattle.laws.specs.Answer.{ask}
use Rattle.laws.proofs.Test.{was_false, was_true}
use Rattle.schedule.specs.Questions.{reach_right, entry_question}
use Rattle.acceptance.proofs.process.process_question.Goals as goal

pub returns-then-vote-gt1 : goal.returns-then-vote-gt1
unfolding ask entry_question
returns-then-vote-gt1 c =
    record { asked = let a = c.args in rw (lt-leb a.vote 1 (omega arith)) }

pub returns-then-not-is_round : goal.returns-then-not-is_round
unfolding ask entry_question
returns-then-not-is_round c =
    record {
      asked = let a = c.args in
          let h5 : leb a.crash (a.t + 1) ≡ false = was_false c.is_round.ensures.tested c.if-not-is_round.true in
          rw (le-leb a.vote 1 (omega arith), h5);
    }

pub returns-then-not-is_reach_right : goal.returns-then-not-is_reach_right
unfolding ask entry_question
returns-then-not-is_reach_right c =
    record {
      asked = let a = c.args in
          let h5 : leb a.crash (a.t + 1) ≡ true = was_true c.is_round.ensures.tested c.if-not-is_round.false in
          let h6 : reach_right a.n a.i a.crash a.reach ≡ false = was_false c.is_reach_right.ensures.tested c.if-not-is_reach_right.true in
          rw (le-leb a.vote 1 (omega arith), h5, h6);
    }

pub returns : goal.returns
unfolding ask entry_question
returns c =
    record {
      asked = let a = c.args in
          let h5 : leb a.crash (a.t + 1) ≡ true = was_true c.is_round.ensures.tested c.if-not-is_round.false in
          let h6 : reach_right a.n a.i a.crash a.reach ≡ true = was_true c.is_reach_right.ensures.tested c.if-not-is_reach_right.false in
          rw (le-leb a.vote 1 (omega arith), h5, h6);
    }
