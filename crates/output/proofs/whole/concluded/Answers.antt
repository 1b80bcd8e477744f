-- `concluded` meets its contract: an accepted schedule is not refused, so the simulator gives its outcome, which is commit or abort, and this is written
-- into a buffer that is long enough. Assumes nothing.
use mathlib.Core.Path.{◌≡◌, sym, ap, ◌∙◌}
use native.Mathlib.Omega.{arith}
use borrow.Author.Rules.{rules}
use Rattle.std.specs.Prelude.{Ok, is_ok}
use Rattle.laws.specs.Question.{answer_is}
use Rattle.laws.proofs.Answer.{answer_accepted}
use Rattle.laws.proofs.Refusals.{ok_of}
use Rattle.schedule.specs.Schedule.{Schedule, schedule_lent}
use Rattle.run.specs.Protocol.{fcwfa}
use Rattle.simulator.specs.Answers.{outcome_of, outcome_answer}
use Rattle.output.specs.Answers.{output_is}
use Rattle.report.proofs.Decisions.{written_outcome_lem}
use Rattle.buffer.proofs.Puts.{puts_same}
use Rattle.output.proofs.Lengths.{outcome_short}
use Rattle.output.proofs.Given.{print_outcome}
use Rattle.output.proofs.whole.concluded.Goals as goal
use Rattle.output.proofs.whole.concluded.Goals.{After-conclude}

-- the schedule that is concluded
abbrev given : After-conclude → Schedule
given c = schedule_lent c.args.schedule.now.tables

-- it is accepted, so the simulator gives its outcome
decided : (c : After-conclude) → c.conclude.result ≡ Ok (outcome_of fcwfa (given c))
unfolding outcome_answer
decided c = ok_of _ (c.conclude.ensures.concluded.answered ∙ answer_accepted _ _ _ c.args.schedule.now.accepted)

pub unwrap-outcome-requires : goal.unwrap-outcome-requires
unwrap-outcome-requires c = ap is_ok (decided c)

pub returns : goal.returns
returns c =
    let at = (goal.at.returns c).After-conclude in
    let outcome = c.unwrap-outcome.result in
    let same = ap answer_is c.unwrap-outcome.ensures in
    let promised = (c.conclude.ensures.concluded.promises.kept outcome same).commit_or_abort in
    let short = outcome_short outcome.decision outcome.round (search rules) in
    record {
      output = c.written.ensures.output _ (λ before after put. puts_same (written_outcome_lem outcome (omega arith)) (search rules)) short
          ∙ ap output_is (print_outcome fcwfa (given at) outcome (sym same ∙ ap answer_is (decided at)));
    }
