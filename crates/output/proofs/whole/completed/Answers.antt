-- `completed` meets its contract: an accepted schedule is not refused, so the simulator gives the counts and tables of its report, and these are written
-- into a buffer that is long enough. Assumes nothing.
use mathlib.Core.Path.{◌≡◌, sym, ap, ◌∙◌}
use Prim.Native.Nat.{ℕ, ◌^◌, ◌≤◌, ◌<◌}
use native.Mathlib.Omega.{arith}
use borrow.Author.Rules.{rules}
use lib.ListN.{length, get_or}
use Rattle.std.specs.Prelude.{Ok, is_ok}
use Rattle.laws.specs.Question.{answer_is}
use Rattle.laws.proofs.Answer.{answer_accepted, place_given}
use Rattle.laws.proofs.Lists.{length_tabulate}
use Rattle.laws.proofs.Refusals.{ok_of}
use Rattle.sets.specs.Largest.{largest}
use Rattle.schedule.specs.Questions.{answers_of, question}
use Rattle.schedule.specs.Schedule.{Schedule, schedule_lent}
use Rattle.schedule.proofs.Accepted.{question_accepted}
use Rattle.run.specs.Protocol.{fcwfa}
use Rattle.run.specs.Report.{report}
use Rattle.simulator.specs.Answers.{counts_of, given_by, simulate_answer}
use Rattle.text.specs.Output.{report_text}
use Rattle.output.specs.Answers.{output_is}
use Rattle.report.specs.Shown.{are_decisions, shown}
use Rattle.report.proofs.Decisions.{shown_all}
use Rattle.buffer.proofs.Puts.{puts_same}
use Rattle.output.proofs.Lengths.{report_short}
use Rattle.output.proofs.Given.{print_given, all_decisions}
use Rattle.output.proofs.whole.completed.Goals as goal
use Rattle.output.proofs.whole.completed.Goals.{After-written, After-simulate}

-- the schedule that is run
abbrev given : After-simulate → Schedule
given c = schedule_lent c.args.schedule.now.tables

-- it is accepted, with the two tables that are lent for it too
accepts : (c : After-simulate) → let a = c.args in let s = given c in question s largest (answers_of s.n (length a.decisions.now) (length a.decided.now)) ≡ 0
accepts c = ap (question (given c) largest) c.requires.long ∙ c.args.schedule.now.accepted

-- so the simulator gives the counts of its report
counted : (c : After-simulate) → c.simulate.result ≡ Ok (counts_of (report fcwfa (given c)))
unfolding simulate_answer
counted c = ok_of _ (c.simulate.ensures.simulated.answered ∙ answer_accepted _ _ _ (accepts c))

-- and its tables
decided : (c : After-simulate) → c.simulate.new.decisions ≡ (report fcwfa (given c)).decisions
decided c = c.simulate.ensures.simulated.decisions_given ∙ place_given _ _ _ (accepts c)

timed : (c : After-simulate) → c.simulate.new.rounds ≡ (report fcwfa (given c)).rounds
timed c = c.simulate.ensures.simulated.rounds_given ∙ place_given _ _ _ (accepts c)

-- which have an entry for each process
long : (c : After-simulate) → length c.simulate.new.decisions ≡ (given c).n
long c = ap length (decided c) ∙ length_tabulate (given c).n _

pub unwrap-counts-requires : goal.unwrap-counts-requires
unwrap-counts-requires c = ap is_ok (counted (goal.at.unwrap-counts-requires c).After-simulate)

-- what is given is shown, and is the report
all_shown : (c : After-written) → let s = given (goal.at.After-written c).After-simulate in let k = c.unwrap-counts.result in
    shown s.t k c.simulate.new.decisions c.simulate.new.rounds ≡ report_text (length c.simulate.new.decisions) s.t (given_by k c.simulate.new.decisions c.simulate.new.rounds)
all_shown c =
    let at = (goal.at.After-written c).After-simulate in
    let s = given at in
    let rounds : length c.simulate.new.rounds ≡ s.n = ap length (timed at) ∙ length_tabulate s.n _ in
    shown_all s.t _ _ _ (rounds ∙ sym (long at)) (ap are_decisions (decided at) ∙ all_decisions s largest _ (accepts at))

same_text : (c : After-written) → let s = given (goal.at.After-written c).After-simulate in let k = c.unwrap-counts.result in
    report_text (length c.simulate.new.decisions) s.t (given_by k c.simulate.new.decisions c.simulate.new.rounds) ≡ report_text s.n s.t (report fcwfa s)
same_text c =
    let at = (goal.at.After-written c).After-simulate in
    let s = given at in
    print_given (report fcwfa s) s.n s.t _ _ _ (long at) (ap answer_is (sym c.unwrap-counts.ensures ∙ counted at)) (decided at) (timed at)

pub returns : goal.returns
returns c =
    let at = (goal.at.returns c).After-simulate in
    let whole = (goal.at.returns c).After-written in
    let s = given at in
    let k = c.unwrap-counts.result in
    let ok = question_accepted s largest _ (accepts at) in
    let (n, t) : (s.n ≤ largest) × (s.t < s.n) = (ok.n_high, ok.rules.t_high) in
    let each : length c.simulate.new.decisions ≡ s.n = long at in
    let rounds = c.simulate.new.rounds in
    let each_round : (i : ℕ) → get_or rounds i 0 < 2 ^ 64 = λ i. let b : get_or rounds i 0 < 256 = search rules in omega arith in
    let fits = report_short (length c.simulate.new.decisions) s.t (given_by k c.simulate.new.decisions rounds) (omega arith) (omega arith) (search rules) (search rules) (search rules) (search rules) each_round in
    record {
      output = c.written.ensures.output _ (λ before after put. puts_same (all_shown whole) (search rules)) fits
          ∙ ap output_is (same_text whole);
    }
