-- What an accepted schedule's run gives: each process has a reason, each decision is 0, 1 or 2, and printing the counts and tables that are given prints
-- the report, as printing an outcome that is given prints that of the schedule. Assumes nothing.
use mathlib.Core.Path.{◌≡◌, ap, ap₂, ◌∙◌}
use mathlib.Core.Logic.{inl, inr}
use mathlib.Core.List.{List}
use mathlib.Core.Bool.{Bool, true}
use Prim.Native.Nat.{ℕ, ◌+◌, ◌≤◌, ◌<◌}
use native.Mathlib.Omega.{arith}
use borrow.Author.Tests.{eqb-true, eqb-false}
use lib.ListN.{length, get_or}
use lib.Dec.{eqb}
use Rattle.laws.specs.Answer.{Answer, accepted, ask}
use Rattle.laws.proofs.Test.{true_or_false, cond_true, within_is}
use Rattle.laws.proofs.Lists.{read_same}
use Rattle.laws.proofs.Answer.{answer_accepted, and_then_passes, value_or}
use Rattle.schedule.specs.Schedule.{Schedule}
use Rattle.schedule.specs.Questions.{question}
use Rattle.schedule.proofs.Accepted.{question_accepted}
use Rattle.run.specs.Protocol.{Protocol, fcwfa}
use Rattle.run.specs.Report.{Report, report}
use Rattle.run.specs.Why.{why_of}
use Rattle.run.proofs.Theorem.{accepted_run}
use Rattle.explanation.specs.Answers.{why_question, why_answer}
use Rattle.simulator.specs.declared.Counts.{Counts}
use Rattle.simulator.specs.declared.Outcome.{Outcome}
use Rattle.simulator.specs.Answers.{counts_of, given_by, outcome_of}
use Rattle.text.specs.Output.{report_text, outcome_text, outcome_shown}
use Rattle.report.specs.Shown.{are_decisions}
use Rattle.report.proofs.Decisions as Decisions

-- each process of an accepted schedule has a reason
pub reason_given : (limit : ℕ) (s : Schedule) (i : ℕ) → question s limit true ≡ 0 → i < s.n → why_answer limit s (i + 1) ≡ accepted (why_of s i)
unfolding why_question why_answer ask
reason_given limit s i passed l =
    answer_accepted _ _ _ (and_then_passes _ _ passed (cond_true _ _ _ (within_is 1 (i + 1) s.n (omega arith) (omega arith))))
    ∙ ap (λ (j : ℕ). accepted (why_of s j)) (omega arith)

-- FCWFA decides 0 or 1
module _ (s : Schedule) (limit : ℕ) (answers : Bool) (passed : question s limit answers ≡ 0) where
  pub n_small : s.n ≤ limit
  n_small = (question_accepted s limit answers passed).n_high

  each_decision : (i : ℕ) → i < length (report fcwfa s).decisions → get_or (report fcwfa s).decisions i 0 ≤ 2
  each_decision i below =
      let reported = (accepted_run s limit answers passed).reported in
      let long = reported.decisions_long in
      let round = get_or (report fcwfa s).rounds i 0 in
      let same = read_same (report fcwfa s).decisions 0 2 i below in
      elim (true_or_false (eqb round 0)) [
        | inl z ↦ let none : get_or (report fcwfa s).decisions i 2 ≡ 2 = reported.undecided i (omega arith) (eqb-true round 0 z) in omega arith
        | inr z ↦
            let bit = (reported.decided i _ _ (reported.decides i (omega arith) (eqb-false round 0 z))).2 in
            omega arith
      ]

  pub all_decisions : are_decisions (report fcwfa s).decisions ≡ true
  all_decisions = Decisions.all_decisions (report fcwfa s).decisions each_decision

-- printing what is given prints the report
pub print_given : (given : Report) (n t : ℕ) (counts : Counts) (decisions rounds : List ℕ) → length decisions ≡ n
    → ◌≡◌ {A = Answer Counts (Unit {0})} (accepted counts) (accepted (counts_of given)) → decisions ≡ given.decisions → rounds ≡ given.rounds
    → report_text (length decisions) t (given_by counts decisions rounds) ≡ report_text n t given
print_given given n t counts decisions rounds long same ed er =
    let c : counts ≡ counts_of given = ap (value_or counts) same in
    ap₂ (λ (m : ℕ) (x : Counts). report_text m t (given_by x decisions rounds)) long c
    ∙ ap₂ (λ (d r : List ℕ). report_text n t (given_by (counts_of given) d r)) ed er

-- printing an outcome that is given prints that of the schedule
pub print_outcome : (P : Protocol) (s : Schedule) (outcome : Outcome) → ◌≡◌ {A = Answer Outcome (Unit {0})} (accepted outcome) (accepted (outcome_of P s))
    → outcome_text outcome.decision outcome.round ≡ outcome_shown P s
print_outcome P s outcome e = ap (λ (o : Outcome). outcome_text o.decision o.round) (ap (value_or outcome) e)
