-- The calls of specs/Vectors.antt: what the definitions answer and leave is computed, for all at once. Assumes nothing.
use Prim.Native.Nat.{ℕ}
use mathlib.Core.Path.{refl}
use mathlib.Core.List.{List}
use lib.Count.{ones, ones_in}
use Rattle.laws.specs.Test.{within}
use Rattle.laws.specs.Below.{sum, count, least, tabulate, fold}
use Rattle.laws.specs.Answer.{ask, and_then, ask_each, answer, place_after}
use Rattle.sets.specs.Sets.{names}
use Rattle.member.specs.State.{stopped}
use Rattle.member.specs.Saying.{says}
use Rattle.member.specs.Hearing.{codes, told, zeros_only, quiet, enough, rule_met, first_estimate, lowered, told_value, by_rule, becomes}
use Rattle.schedule.specs.Schedule.{crashes_in}
use Rattle.schedule.specs.Questions.{tables_of, answers_of, reach_right, entry_question, question}
use Rattle.run.specs.Run.{completes_round, is_heard, delivered, code_heard, row_of, state_after, next_state, played, opened, states_after, final}
use Rattle.run.specs.Report.{sent_by, messages, decision_of, ahead, before, first_with, first_of, last_of}
use Rattle.run.specs.Outcome.{lowest_decided, outcome_round, outcome_decision}
use Rattle.simulator.specs.declared.Counts.{Counts}
use Rattle.simulator.specs.declared.Outcome.{Outcome}
use Rattle.simulator.specs.Answers.{simulate_answer, outcome_answer}
use Rattle.simulator.specs.Vectors.{SimulatorVectors, SimulatedCases, OutcomeVectors, ConcludedCases}

pub simulator_vectors : SimulatorVectors
unfolding ones ones_in within sum count tabulate fold ask and_then ask_each answer place_after names stopped says codes told zeros_only quiet enough rule_met first_estimate lowered told_value by_rule becomes crashes_in tables_of answers_of reach_right entry_question question completes_round is_heard delivered code_heard row_of state_after next_state played opened states_after final sent_by messages decision_of ahead before first_with first_of last_of simulate_answer
simulator_vectors = record { answered = refl; decided = refl; timed = refl }

pub simulated_cases : (counts : Counts) (decisions rounds : List ℕ) → SimulatedCases counts decisions rounds
simulated_cases counts decisions rounds = record { completed = refl; not_run = refl; given_counts = refl; given_decisions = refl; given_rounds = refl }

pub outcome_vectors_lem : OutcomeVectors
unfolding ones ones_in within sum count least tabulate fold ask and_then ask_each answer names stopped says codes told zeros_only quiet enough rule_met first_estimate lowered told_value by_rule becomes crashes_in tables_of reach_right entry_question question completes_round is_heard delivered code_heard row_of state_after next_state played opened states_after decision_of lowest_decided outcome_round outcome_decision outcome_answer
outcome_vectors_lem = refl

pub concluded_cases : (outcome : Outcome) → ConcludedCases outcome
concluded_cases outcome = record { decided = refl; not_played = refl }
