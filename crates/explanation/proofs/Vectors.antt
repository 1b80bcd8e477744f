-- The calls of specs/Vectors.antt: what the definitions answer is computed, for all at once. Assumes nothing.
use mathlib.Core.Path.{refl}
use Rattle.laws.specs.Test.{within}
use Rattle.laws.specs.Below.{sum, count, least, tabulate, fold}
use Rattle.laws.specs.Answer.{ask, and_then, ask_each, answer}
use Rattle.member.specs.State.{stopped}
use Rattle.member.specs.Saying.{says}
use Rattle.member.specs.Hearing.{codes, told, zeros_only, quiet, enough, rule_met, first_estimate, lowered, told_value, by_rule, becomes, sets_silent, silent_after}
use Rattle.member.specs.Reasons.{lowest_sender, rule_heard, rule_number}
use Rattle.sets.specs.Sets.{names}
use Rattle.schedule.specs.Schedule.{crashes_in}
use Rattle.schedule.specs.Questions.{reach_right, entry_question, tables_of, question}
use Rattle.run.specs.Run.{completes_round, is_heard, delivered, code_heard, row_of, state_after, next_state, played, opened, states_after, after, final}
use Rattle.run.specs.Why.{why_of}
use Rattle.explanation.specs.Answers.{why_question, why_answer}
use Rattle.explanation.specs.Vectors.{ExplainVectors}

pub explain_vectors : ExplainVectors
unfolding within sum count least tabulate fold ask and_then ask_each answer stopped says codes told zeros_only quiet enough rule_met first_estimate lowered told_value by_rule becomes sets_silent silent_after lowest_sender rule_heard rule_number names crashes_in reach_right entry_question tables_of question completes_round is_heard delivered code_heard row_of state_after next_state played opened states_after after final why_of why_question why_answer
explain_vectors = record { answered = refl }
