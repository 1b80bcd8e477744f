-- The whole call. A refused one changes nothing and gives no counts. An accepted one gives the report of its schedule: the tables and the counts are
-- those of the states at the end of the run, and the promises hold of the report. Assumes nothing.
use mathlib.Core.Path.{◌≡◌, sym, ap, ◌∙◌, subst}
use mathlib.Core.List.{List}
use mathlib.Core.Bool.{Bool, cond}
use Prim.Native.Nat.{ℕ, ◌+◌, ◌≤◌, ◌<◌, min}
use lib.Dec.{eqb}
use lib.ListN.{length, get_or}
use Rattle.laws.specs.Below.{tabulate}
use Rattle.laws.specs.Answer.{accepted, refused, place_after}
use Rattle.laws.proofs.Lists.{length_tabulate, tabulate_same}
use Rattle.laws.specs.declared.question.Question.{Question}
use Rattle.laws.specs.Question.{question_number, answer_is}
use Rattle.laws.proofs.Answer.{value_or, not_accepted, place_given, place_kept}
use Rattle.laws.proofs.Refusals.{not_zero, is_refused, is_accepted}
use Rattle.std.specs.Prelude.{Ok, Err}
use Rattle.member.specs.declared.Member.{Member}
use Rattle.sets.specs.Largest.{largest}
use Rattle.schedule.specs.Schedule.{Schedule, crash_of}
use Rattle.schedule.specs.Questions.{answers_of, question, Accepted}
use Rattle.schedule.specs.Counting.{crashes_counted}
use Rattle.schedule.proofs.Accepted.{both_long, question_accepted}
use Rattle.schedule.proofs.Counting.{f_counted}
use Rattle.run.specs.Protocol.{Protocol, fcwfa}
use Rattle.run.specs.Run.{state_at, final}
use Rattle.run.specs.Report.{round_of, decision_of, first_of, last_of, messages, report}
use Rattle.run.specs.Given.{GivenPromises}
use Rattle.run.proofs.Reported.{rounds_read}
use Rattle.run.proofs.Theorem.{accepted_run}
use Rattle.execution.specs.declared.Ran.{Ran}
use Rattle.execution.specs.Ran.{messages_after, ran_of}
use Rattle.execution.proofs.Whole.{passed as passed_lem, left_messages, all_rounds, final_at}
use Rattle.simulator.specs.declared.Counts.{Counts}
use Rattle.simulator.specs.Answers.{counts_of, simulate_question, simulate_answer, decisions_after, rounds_after, given_by, AnswersKeepPromises}

-- A call that is refused by a question.
module _ (P : Protocol) (s : Schedule) (decisions rounds : List ℕ) (q : Question) (asked : question_number q ≡ simulate_question largest s decisions rounds) where
  pub refused_answer : refused (question_number q) tt ≡ simulate_answer P largest s decisions rounds
  unfolding simulate_answer
  refused_answer = is_refused q _ _ tt asked

  pub kept_table : (given lent : List ℕ) → lent ≡ place_after (simulate_question largest s decisions rounds) given lent
  kept_table given lent = sym (place_kept _ given lent (λ z. not_zero q (asked ∙ z)))

  pub refused_keeps : AnswersKeepPromises s (Err q) decisions rounds
  refused_keeps = record { kept = λ counts e. absurd (not_accepted e) }

-- A call for which the rounds leave `ran`.
module _ (P : Protocol) (s : Schedule) (decisions rounds : List ℕ) {ran : Ran}
    (left : accepted ran ≡ ran_of P largest s (answers_of s.n (length decisions) (length rounds)) (min largest (s.t + 1))) where
  pub passed : simulate_question largest s decisions rounds ≡ 0
  passed = passed_lem P s _ (min largest (s.t + 1)) left

  accepts : Accepted s largest (answers_of s.n (length decisions) (length rounds))
  accepts = question_accepted s largest _ passed

  -- both answer tables are n long
  pub tables_long_lem : (length decisions ≡ s.n) × (length rounds ≡ s.n)
  tables_long_lem = both_long s.n _ _ accepts.answers_long

  pub small : s.n ≤ largest
  small = accepts.n_high

  given_table : (given lent : List ℕ) → given ≡ place_after (simulate_question largest s decisions rounds) given lent
  given_table given lent = sym (place_given _ given lent passed)

  state_at_lem : (i : ℕ) → i < s.n → state_at ran.members i ≡ state_at (final P s) i
  state_at_lem = final_at P s _ passed left

  messages_are : ran.messages ≡ messages P s
  unfolding messages
  messages_are = left_messages P s _ (min largest (s.t + 1)) left ∙ ap (messages_after P s) (all_rounds P s _ passed)

  decisions_are : {given : List ℕ} → given ≡ tabulate (length decisions) (decision_of ran.members) → given ≡ (report P s).decisions
  unfolding decision_of
  decisions_are e =
      e
      ∙ ap (λ (k : ℕ). tabulate k (decision_of ran.members)) tables_long_lem.0
      ∙ tabulate_same s.n _ _ (λ i l. ap (λ (m : Member). cond (eqb m.decided 0) 2 m.estimate) (state_at_lem i l))

  rounds_are : {given : List ℕ} → given ≡ tabulate (length rounds) (round_of ran.members) → given ≡ (report P s).rounds
  rounds_are e =
      e
      ∙ ap (λ (k : ℕ). tabulate k (round_of ran.members)) tables_long_lem.1
      ∙ tabulate_same s.n _ _ (λ i l. ap (λ (m : Member). m.decided) (state_at_lem i l))

  -- what the code found: the counts c, and the two tables after the call
  module _ {c : Counts} {decisions-now rounds-now : List ℕ}
      (d : decisions-now ≡ tabulate (length decisions) (decision_of ran.members))
      (r : rounds-now ≡ tabulate (length rounds) (round_of ran.members))
      (found : c ≡ record {
        f = crashes_counted s.t s.crashes;
        first = first_of (crash_of s) (λ i. get_or rounds-now i 0) (length rounds-now);
        last = last_of (λ i. get_or rounds-now i 0) (length rounds-now);
        messages = ran.messages;
      }) where
    rounds_at : (λ (i : ℕ). get_or rounds-now i 0) ≡ round_of (final P s)
    rounds_at k i = (ap (λ (l : List ℕ). get_or l i 0) (rounds_are r) ∙ rounds_read P s i) k

    rounds_long : length rounds-now ≡ s.n
    rounds_long = ap length (rounds_are r) ∙ length_tabulate s.n (round_of (final P s))

    counts_are : c ≡ counts_of (report P s)
    counts_are =
        found
        ∙ (λ i. record {
          f = f_counted s largest _ accepts i;
          first = first_of (crash_of s) (rounds_at i) (rounds_long i);
          last = last_of (rounds_at i) (rounds_long i);
          messages = messages_are i;
        })

    pub completed_answer : accepted c ≡ simulate_answer P largest s decisions rounds
    unfolding simulate_answer
    completed_answer = ap (λ (k : Counts). accepted k) counts_are ∙ is_accepted _ _ tt (sym passed)

    pub given_decisions : decisions-now ≡ decisions_after P largest s decisions rounds
    given_decisions = decisions_are d ∙ given_table (report P s).decisions decisions

    pub given_rounds : rounds-now ≡ rounds_after P largest s decisions rounds
    given_rounds = rounds_are r ∙ given_table (report P s).rounds rounds

    -- what was given is the report
    pub given_is : (k : Counts) → answer_is (Ok c) ≡ accepted k → given_by k decisions-now rounds-now ≡ report P s
    given_is k e =
        let counts : k ≡ counts_of (report P s) = sym (ap (value_or k) e) ∙ counts_are in
        λ i. record {
          f = (counts i).f;
          first = (counts i).first;
          last = (counts i).last;
          messages = (counts i).messages;
          decisions = decisions_are d i;
          rounds = rounds_are r i;
        }

-- and the promises hold of the report of FCWFA
pub completed_keeps : (s : Schedule) (answers : Bool) {c : Counts} {decisions rounds : List ℕ} → question s largest answers ≡ 0
    → ((k : Counts) → answer_is (Ok c) ≡ accepted k → given_by k decisions rounds ≡ report fcwfa s) → AnswersKeepPromises s (Ok c) decisions rounds
completed_keeps s answers passed is =
    record { kept = λ k e. subst (GivenPromises s) (sym (is k e)) (accepted_run s largest answers passed).given }
