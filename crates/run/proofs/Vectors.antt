-- The values of specs/Vectors.antt are computed from the definitions, all at once. Assumes nothing.
use mathlib.Core.Path.{refl}
use lib.Count.{ones, ones_in}
use Rattle.laws.specs.Test.{within}
use Rattle.laws.specs.Below.{sum, count, least, tabulate, fold}
use Rattle.laws.specs.Answer.{ask, place_after}
use Rattle.member.specs.Opening.{open_question}
use Rattle.member.specs.State.{in_limits, placed, silent_others, in_range, stopped}
use Rattle.member.specs.Saying.{says}
use Rattle.member.specs.Hearing.{codes, told, told_early, told_both, zeros_only, quiet, enough, rule_met, first_estimate, lowered, told_value, by_rule, becomes, sets_silent, silent_after}
use Rattle.member.specs.Reasons.{lowest_sender, rule_heard, rule_number}
use Rattle.member.specs.Questions.{say_question, row_question, hear_question}
use Rattle.sets.specs.Sets.{names}
use Rattle.schedule.specs.Schedule.{crashed_by}
use Rattle.run.specs.Run.{completes_round, is_heard, delivered, code_heard, row_of, state_after, next_state, played, opened, states_after, after, final}
use Rattle.run.specs.Report.{sent_by, messages, decision_of, ahead, before, first_with, first_of, last_of}
use Rattle.run.specs.Demand.{round_b, most_messages}
use Rattle.run.specs.CrashesSoFar.{early_round, settling_round}
use Rattle.run.specs.Outcome.{lowest_decided, outcome_round, outcome_decision}
use Rattle.run.specs.Why.{why_of}
use Rattle.run.specs.Vectors.{RunVectors}

pub run_vectors : RunVectors
unfolding within sum count least fold ask place_after open_question in_limits placed silent_others in_range stopped says codes told told_early told_both first_estimate becomes sets_silent silent_after say_question row_question hear_question crashed_by ahead before first_with first_of last_of round_b most_messages ones ones_in tabulate zeros_only quiet enough rule_met lowered told_value by_rule names completes_round is_heard delivered code_heard row_of state_after next_state played opened states_after after final sent_by messages decision_of early_round settling_round lowest_decided outcome_round outcome_decision lowest_sender rule_heard rule_number why_of
run_vectors =
    record {
      round_b_of_3 = refl;
      round_b_of_5 = refl;
      most_messages_of_4 = refl;
      bound_met = refl;
      crashed_by = refl;
      settling_of_4 = refl;
      settling_of_7 = refl;
      first_by_round = refl;
      first_survivor = refl;
      last = refl;
      silent_sets = refl;
      lowest_decided = refl;
      outcomes = refl;
      no_outcome = refl;
      told_by_2 = refl;
      told_by_4 = refl;
      untold_by_4 = refl;
      one_missing = refl;
      refused_opening = refl;
      refused_saying = refl;
      refused_hearing = refl;
    }
