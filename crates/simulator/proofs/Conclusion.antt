-- The call that plays rounds until the outcome is known. A refused one gives no outcome, and an accepted one the decision of the process that was found and
-- the round, which keep the promises. Assumes nothing.
use mathlib.Core.Path.{◌≡◌, sym, ap, ◌∙◌, subst}
use mathlib.Core.Bool.{true, cond}
use Prim.Native.Nat.{ℕ}
use lib.Dec.{eqb}
use Rattle.std.specs.Prelude.{Ok, Err}
use Rattle.laws.specs.Answer.{accepted}
use Rattle.laws.specs.declared.question.Question.{Question}
use Rattle.laws.specs.Question.{question_number}
use Rattle.laws.proofs.Answer.{accepted_is, value_or, not_accepted}
use Rattle.laws.proofs.Refusals.{is_refused, is_accepted}
use Rattle.sets.specs.Largest.{largest}
use Rattle.schedule.specs.Schedule.{Schedule}
use Rattle.schedule.specs.Questions.{question}
use Rattle.run.specs.Protocol.{fcwfa}
use Rattle.run.specs.Report.{decision_of}
use Rattle.run.specs.Outcome.{outcome_round, outcome_member, outcome_decision, OutcomePromises}
use Rattle.run.proofs.Theorem.{accepted_run}
use Rattle.execution.specs.declared.FirstDecision.{FirstDecision}
use Rattle.execution.specs.Decision.{first_decision_of}
use Rattle.simulator.specs.declared.Outcome.{Outcome}
use Rattle.simulator.specs.Answers.{outcome_of, outcome_answer, Concludes}

-- A call that is refused by a question.
pub refused_concludes : (s : Schedule) (q : Question) → question_number q ≡ question s largest true → Concludes s (Err q)
unfolding outcome_answer
refused_concludes s q asked = record {
  answered = is_refused q _ _ tt asked;
  promises = record { kept = λ outcome e. absurd (not_accepted e) };
}

-- A call for which the rounds leave `first`.
module _ (s : Schedule) {first : FirstDecision} (left : accepted first ≡ first_decision_of fcwfa largest s) where
  passed : question s largest true ≡ 0
  passed = (accepted_is _ _ tt left).0

  left_is : first ≡ record { round = outcome_round fcwfa s; member = outcome_member fcwfa s }
  left_is = (accepted_is _ _ tt left).1

  decision_is : {d : ℕ} → d ≡ cond (eqb first.member.decided 0) 2 first.member.estimate → d ≡ outcome_decision fcwfa s
  unfolding outcome_decision decision_of
  decision_is e = e ∙ ap (λ (f : FirstDecision). cond (eqb f.member.decided 0) 2 f.member.estimate) left_is

  outcome_is : {d : ℕ} → d ≡ cond (eqb first.member.decided 0) 2 first.member.estimate
      → ◌≡◌ {A = Outcome} (record { decision = d; round = first.round }) (outcome_of fcwfa s)
  outcome_is e i = record { decision = decision_is e i; round = (left_is i).round }

  pub decided_concludes : {d : ℕ} → d ≡ cond (eqb first.member.decided 0) 2 first.member.estimate → Concludes s (Ok (record { decision = d; round = first.round }))
  unfolding outcome_answer
  decided_concludes e = record {
    answered = ap (λ (o : Outcome). accepted o) (outcome_is e) ∙ is_accepted _ _ tt (sym passed);
    promises = record {
      kept = λ outcome h.
          subst (λ (o : Outcome). OutcomePromises s o.decision o.round) (sym (outcome_is e) ∙ ap (value_or outcome) h) (accepted_run s largest true passed).outcome;
    };
  }
