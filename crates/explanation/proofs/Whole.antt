-- The whole call. A refused schedule, or a number that is no process's, gives no reason; an accepted call gives that of the process, which keeps the
-- promises. Assumes nothing.
use mathlib.Core.Path.{◌≡◌, sym, ap, ◌∙◌, subst}
use mathlib.Core.Bool.{Bool, true, false}
use Prim.Native.Nat.{ℕ, ◌+◌, ◌-◌, ◌≤◌, ◌<◌, min}
use native.Mathlib.Omega.{arith}
use borrow.Author.Tests.{eq-eqb}
use lib.Dec.{eqb}
use Rattle.laws.specs.Test.{within}
use Rattle.std.specs.Prelude.{Result, Err}
use Rattle.laws.specs.Answer.{ask, and_then, Answer, accepted}
use Rattle.laws.specs.declared.question.Question.{Question}
use Rattle.laws.specs.declared.question.Question.TheVariants.{OwnNumber}
use Rattle.laws.specs.Question.{question_number, answer_is}
use Rattle.laws.proofs.Test.{cond_true, within_low, within_high}
use Rattle.laws.proofs.Answer.{value_or, not_accepted}
use Rattle.laws.proofs.Refusals.{is_refused, is_accepted, ended}
use Rattle.member.specs.declared.Reason.{Reason}
use Rattle.member.specs.declared.Rule.TheVariants.{NoRule}
use Rattle.sets.specs.Largest.{largest}
use Rattle.schedule.specs.Schedule.{Schedule, crash_of}
use Rattle.schedule.specs.Questions.{question}
use Rattle.schedule.proofs.Accepted.{question_accepted}
use Rattle.run.specs.Protocol.{fcwfa}
use Rattle.run.specs.Run.{state_at}
use Rattle.run.specs.Why.{own_round, why_of, WhyPromises}
use Rattle.run.proofs.Theorem.{accepted_run}
use Rattle.execution.specs.declared.Ran.{Ran}
use Rattle.execution.specs.Ran.{ran_of}
use Rattle.execution.proofs.Whole.{passed as passed_lem, final_at}
use Rattle.explanation.specs.Answers.{why_question, why_answer, Explains}

-- a call that takes no answer tables
pub alone : (s : Schedule) (k : ℕ) {answers : Bool} {x : Answer Ran (Unit {0})} → answers ≡ true → x ≡ ran_of fcwfa largest s answers k → x ≡ ran_of fcwfa largest s true k
alone s k long left = left ∙ ap (λ answers. ran_of fcwfa largest s answers k) long

-- A refusal by a question whose number the questions come to.
refuses : (s : Schedule) (id : ℕ) (q : Question) → question_number q ≡ why_question largest s id → Explains s id (Err q)
unfolding why_answer
refuses s id q e = record {
  answered = is_refused q _ _ tt e;
  promises = record { kept = λ why h. absurd (not_accepted h) };
}

pub refused_schedule_lem : (s : Schedule) (id : ℕ) (q : Question) → question_number q ≡ question s largest true → Explains s id (Err q)
unfolding why_question
refused_schedule_lem s id q e = refuses s id q (ended q _ _ e)

-- A call for which the rounds leave `ran`.
module _ (s : Schedule) (id : ℕ) {ran : Ran} (left : accepted ran ≡ ran_of fcwfa largest s true (min largest (s.t + 1))) where
  pub passed : question s largest true ≡ 0
  passed = passed_lem fcwfa s true (min largest (s.t + 1)) left

  goes_on : why_question largest s id ≡ ask (within 1 id s.n) 10 0
  unfolding why_question and_then
  goes_on = cond_true (eqb (question s largest true) 0) _ _ (eq-eqb _ 0 passed)

  pub no_process : within 1 id s.n ≡ false → Explains s id (Err OwnNumber)
  unfolding ask
  no_process other = refuses s id OwnNumber (sym (goes_on ∙ ap (λ b. ask b 10 0) other))

  module _ (inside : within 1 id s.n ≡ true) (low : id - 1 < s.n) where
    -- the process's state at the end of the run tells its own round
    pub own_round_lem : {d : ℕ} → d ≡ (state_at ran.members (id - 1)).decided → d ≡ own_round s (id - 1)
    own_round_lem e = e ∙ ap (λ m. m.decided) (final_at fcwfa s true passed left (id - 1) low)

    pub explains : (r : Result Reason Question) → answer_is r ≡ accepted (why_of s (id - 1)) → Explains s id r
    unfolding why_answer ask
    explains r e = record {
      answered = e ∙ is_accepted _ _ tt (sym (goes_on ∙ ap (λ b. ask b 10 0) inside));
      promises = record {
        kept = λ why h.
            subst (WhyPromises s (id - 1)) (ap (value_or why) (sym e ∙ h)) ((accepted_run s largest true passed).why (id - 1) low);
      };
    }

    -- a process without a decision has its crash round
    pub crash_round : {number : ℕ} → number ≡ crash_of s (id - 1) → own_round s (id - 1) ≡ 0
        → ◌≡◌ {A = Reason} (record { rule = NoRule; number = number }) (why_of s (id - 1))
    unfolding why_of
    crash_round e none =
        (λ i. record { rule = NoRule; number = e i })
        ∙ sym (cond_true (eqb (own_round s (id - 1)) 0) _ _ (eq-eqb _ 0 none))

-- a number from 1 to n is that of a place
pub place_low : (id n : ℕ) → within 1 id n ≡ true → (1 ≤ id) × (id - 1 < n)
place_low id n e = let low = within_low 1 id n e in let high = within_high 1 id n e in (low, omega arith)

-- and the place of a process of an accepted schedule is one of an array as long as the largest cluster
pub inside_array : (s : Schedule) (place : ℕ) → question s largest true ≡ 0 → place < s.n → place < largest
inside_array s place e low = let high = (question_accepted s largest true e).n_high in omega arith
