-- Why each process of the marked schedules decided is computed from the definitions, for all at once. Assumes nothing.
use mathlib.Core.Path.{refl}
use Rattle.laws.specs.Below.{sum, count, least, tabulate}
use Rattle.member.specs.State.{stopped}
use Rattle.member.specs.Saying.{says}
use Rattle.member.specs.Hearing.{codes, told, zeros_only, quiet, enough, rule_met, first_estimate, lowered, told_value, by_rule, becomes, sets_silent, silent_after}
use Rattle.member.specs.Reasons.{lowest_sender, rule_heard, rule_number}
use Rattle.sets.specs.Sets.{names}
use Rattle.run.specs.Run.{completes_round, is_heard, delivered, code_heard, row_of, state_after, next_state, played, opened, states_after, after, final}
use Rattle.run.specs.Why.{why_of}
use Rattle.marked.specs.Marked.{MarkedReasons}

pub marked_reasons_lem : MarkedReasons
unfolding sum count least tabulate stopped says codes told zeros_only quiet enough rule_met first_estimate lowered told_value by_rule becomes sets_silent silent_after lowest_sender rule_heard rule_number names completes_round is_heard delivered code_heard row_of state_after next_state played opened states_after after final why_of
marked_reasons_lem = record { given = refl }
