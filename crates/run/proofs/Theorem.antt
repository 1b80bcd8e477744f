-- All that is promised of a run, of every schedule that is accepted, whatever the limit on n. Assumes nothing.
use mathlib.Core.Path.{◌≡◌}
use mathlib.Core.Logic.{inl, inr}
use mathlib.Core.Bool.{Bool}
use Prim.Native.Nat.{ℕ}
use native.Mathlib.Omega.{arith}
use Rattle.schedule.specs.Schedule.{Schedule}
use Rattle.schedule.specs.Questions.{question}
use Rattle.schedule.proofs.Accepted.{question_accepted}
use Rattle.run.specs.Protocol.{fcwfa}
use Rattle.run.specs.Demand.{CompletesUndecided}
use Rattle.run.specs.Facts.{Conditions, RunPromises}
use Rattle.run.proofs.Rounds.{completes_if}
use Rattle.run.proofs.CrashesSoFar.{by_crashes_so_far, by_last_round}
use Rattle.run.proofs.RoundB.{settling_follows, within_b}
use Rattle.run.proofs.LeftOpen.{no_sooner}
use Rattle.run.proofs.SilentSets.{silent_sets}
use Rattle.run.proofs.Demand.{demand_3}
use Rattle.run.proofs.Reported.{reported}
use Rattle.run.proofs.NoneRefused.{none_refused}
use Rattle.run.proofs.OwnAnswers.{own_answers}
use Rattle.run.proofs.Given.{given_promises}
use Rattle.run.proofs.Outcome.{outcome_promises}
use Rattle.run.proofs.Why.{why_promises}
use Rattle.run.proofs.Silence.{silent_from, mute_stops}

-- the conditions of demand 3 are what document 01 has them be
conditions : (s : Schedule) → Conditions s
conditions s = record {
  voted_zero = λ k l z. record { voter = k; process = l; vote = z };
  completes_always = λ r i l z. record { process = l; completed = completes_if s r i (inl z) };
  completes_until = λ r i l h. record { process = l; completed = completes_if s r i (inr h) };
}

pub accepted_run : (s : Schedule) (limit : ℕ) (answers : Bool) → question s limit answers ≡ 0 → RunPromises limit s
accepted_run s limit answers e =
    let a = question_accepted s limit answers e in
    record {
      demand_3 = demand_3 s a.rules;
      conditions = conditions s;
      crashes_so_far = by_crashes_so_far s a.rules;
      last_round = by_last_round s a.rules;
      settled = settling_follows s (CompletesUndecided fcwfa s) (by_crashes_so_far s a.rules) (by_last_round s a.rules);
      within_b = within_b s a.rules.few;
      no_sooner = λ r l. no_sooner s a.rules r (omega arith);
      silent_sets = silent_sets s a.rules;
      reported = reported s a.rules;
      none_refused = none_refused s a.rules limit a.n_high;
      own_answers = own_answers fcwfa limit s (none_refused s a.rules limit a.n_high);
      silence = let low = a.n_low in silent_from fcwfa s (omega arith) mute_stops;
      outcome = outcome_promises s a.rules;
      why = why_promises s a.rules;
      given = given_promises s a.rules;
    }
