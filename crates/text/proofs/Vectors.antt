-- The texts of specs/Vectors.antt: what the definitions print for them is computed, for all at once, and so is the length of the longest text.
-- Assumes nothing.
use mathlib.Core.Path.{◌≡◌, refl}
use mathlib.Core.Bool.{true}
use lib.Count.{ones, ones_in}
use lib.ListN.{length}
use Rattle.laws.specs.Test.{within}
use Rattle.laws.specs.Below.{sum, count, least, tabulate, fold}
use Rattle.laws.specs.Answer.{ask, and_then, ask_each, answer, and_next, next_each}
use Rattle.lines.specs.Lines.{line_length, after_line, after_lines, line_of}
use Rattle.fields.specs.Found.{then_read}
use Rattle.fields.specs.Decimal.{is_digit, decimal_in, decimal, field}
use Rattle.fields.specs.Fields.{starts_with, has_byte, ended, number_field, digit_field, reach_field}
use Rattle.member.specs.State.{stopped}
use Rattle.member.specs.Saying.{says}
use Rattle.member.specs.Hearing.{codes, told, zeros_only, quiet, enough, rule_met, first_estimate, lowered, told_value, by_rule, becomes}
use Rattle.member.specs.Reasons.{lowest_sender, rule_heard, rule_number}
use Rattle.sets.specs.Largest.{largest}
use Rattle.sets.specs.Sets.{names}
use Rattle.schedule.specs.Schedule.{crashes_in}
use Rattle.schedule.specs.Questions.{reach_right, entry_question, tables_of, question}
use Rattle.run.specs.Run.{completes_round, is_heard, delivered, code_heard, row_of, state_after, next_state, played, opened, states_after, after, final}
use Rattle.run.specs.Report.{sent_by, messages, decision_of, ahead, before, first_with, first_of, last_of}
use Rattle.text.specs.Forms.{sizes_at, entry_at}
use Rattle.run.specs.Outcome.{lowest_decided, outcome_round, outcome_decision}
use Rattle.run.specs.Why.{why_of}
use Rattle.text.specs.Written.{each_line, sizes_line, letters_of, process_line, process_lines, text_of, longest_written}
use Rattle.text.specs.Reading.{on_line, schedule_in, entry_questions, head_questions, tail_questions, rest_questions, text_questions, text_answer}
use Rattle.text.specs.Output.{decision_letter, counts_line, decision_line, decision_lines, report_text, outcome_text, rule_word, number_shown, reason_line, reasons_text, refusal_text, output_of}
use Rattle.text.specs.Vectors.{TextVectors, OutcomeTextVectors, ReasonsTextVectors, longest_schedule, LengthVectors}

pub text_vectors : TextVectors
unfolding ones ones_in within sum count tabulate fold ask answer and_next next_each line_length after_line after_lines line_of then_read is_digit decimal_in decimal starts_with has_byte ended number_field digit_field reach_field stopped says codes told zeros_only quiet enough rule_met first_estimate lowered told_value by_rule becomes names crashes_in reach_right entry_question completes_round is_heard delivered code_heard row_of state_after next_state played opened states_after final sent_by messages decision_of ahead before first_with first_of last_of sizes_at entry_at field each_line on_line schedule_in entry_questions head_questions tail_questions rest_questions text_questions text_answer decision_letter counts_line decision_line decision_lines report_text refusal_text output_of
text_vectors = refl

pub outcome_text_vectors : OutcomeTextVectors
unfolding ones ones_in within sum count tabulate fold least ask answer and_next next_each line_length after_line after_lines line_of then_read is_digit decimal_in decimal starts_with has_byte ended number_field digit_field reach_field stopped says codes told zeros_only quiet enough rule_met first_estimate lowered told_value by_rule becomes names crashes_in reach_right entry_question completes_round is_heard delivered code_heard row_of state_after next_state played opened states_after decision_of lowest_decided outcome_round outcome_decision sizes_at entry_at field on_line schedule_in entry_questions head_questions tail_questions rest_questions text_questions text_answer decision_letter outcome_text refusal_text output_of
outcome_text_vectors = refl

pub reasons_text_vectors : ReasonsTextVectors
unfolding ones ones_in within sum count tabulate fold least ask answer and_next next_each line_length after_line after_lines line_of then_read is_digit decimal_in decimal starts_with has_byte ended number_field digit_field reach_field stopped says codes told zeros_only quiet enough rule_met first_estimate lowered told_value by_rule becomes lowest_sender rule_heard rule_number names crashes_in reach_right entry_question completes_round is_heard delivered code_heard row_of state_after next_state played opened states_after after final why_of sizes_at entry_at field each_line on_line schedule_in entry_questions head_questions tail_questions rest_questions text_questions text_answer rule_word number_shown reason_line reasons_text refusal_text output_of
reasons_text_vectors = refl

longest_accepted : question longest_schedule largest true ≡ 0
unfolding within sum count fold ask and_then ask_each names crashes_in reach_right entry_question tables_of question
longest_accepted = refl

longest_text : length (text_of longest_schedule) ≡ longest_written
unfolding tabulate fold decimal_in decimal field names each_line sizes_line letters_of process_line process_lines text_of
longest_text = refl

pub length_vectors : LengthVectors
unfolding ask answer and_next line_length after_lines line_of decimal_in decimal starts_with field on_line head_questions text_questions text_answer refusal_text output_of
length_vectors = record {
  too_long = λ text e. rw e;
  long = λ rest e. rw e;
  longest_accepted = longest_accepted;
  longest_text = longest_text;
}
