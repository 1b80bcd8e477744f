-- The constant CASES is the marked schedules, each with the results of its run: computed for the whole table at once. Assumes nothing.
use mathlib.Core.Path.{refl}
use lib.Count.{ones, ones_in}
use Rattle.laws.specs.Test.{within}
use Rattle.laws.specs.Below.{sum, count, tabulate, fold}
use Rattle.member.specs.State.{stopped}
use Rattle.member.specs.Saying.{says}
use Rattle.member.specs.Hearing.{codes, told, zeros_only, quiet, enough, rule_met, first_estimate, lowered, told_value, by_rule, becomes}
use Rattle.laws.specs.Answer.{ask, and_then, ask_each}
use Rattle.sets.specs.Sets.{names}
use Rattle.schedule.specs.Schedule.{crashes_in}
use Rattle.schedule.specs.Questions.{tables_of, reach_right, entry_question, question}
use Rattle.run.specs.Run.{completes_round, is_heard, delivered, code_heard, row_of, state_after, next_state, played, opened, states_after, final}
use Rattle.run.specs.Report.{sent_by, messages, decision_of, ahead, before, first_with, first_of, last_of}
use Rattle.marked.proofs.all_cases.Goals as goal

pub returns : goal.returns
unfolding ones ones_in within sum count tabulate fold stopped says codes told zeros_only quiet enough rule_met first_estimate lowered told_value by_rule becomes names crashes_in ask and_then ask_each tables_of reach_right entry_question question completes_round is_heard delivered code_heard row_of state_after next_state played opened states_after final sent_by messages decision_of ahead before first_with first_of last_of
returns c =
    record { marked = record { entries = refl; accepted = refl } }
