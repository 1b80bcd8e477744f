-- The calls of specs/Vectors.antt: what the definitions answer is computed, for all at once. Assumes nothing.
use mathlib.Core.Path.{refl}
use Rattle.laws.specs.Test.{within}
use Rattle.laws.specs.Below.{sum, count, least}
use Rattle.laws.specs.Answer.{ask, answer}
use Rattle.sets.specs.Sets.{names}
use Rattle.member.specs.declared.Member.{Member}
use Rattle.member.specs.Opening.{open_question}
use Rattle.member.specs.State.{in_limits, placed, silent_others, in_range, stopped}
use Rattle.member.specs.Saying.{says}
use Rattle.member.specs.Hearing.{codes, told, told_early, told_both, zeros_only, quiet, enough, rule_met, first_estimate, lowered, told_value, by_rule, becomes, sets_silent, silent_after}
use Rattle.member.specs.declared.Reason.{Reason}
use Rattle.member.specs.Reasons.{lowest_sender, rule_heard, rule_number}
use Rattle.member.specs.Questions.{say_question, row_question, hear_question}
use Rattle.member.specs.Answers.{open_answer, say_answer, hear_answer, explain_answer}
use Rattle.member.specs.Vectors.{MemberVectors, AnswerCases}

pub member_vectors : MemberVectors
unfolding within sum count least ask answer open_question in_limits placed names silent_others in_range stopped says codes told told_early told_both zeros_only quiet enough rule_met first_estimate lowered told_value by_rule becomes sets_silent silent_after lowest_sender rule_heard rule_number say_question row_question hear_question open_answer say_answer hear_answer explain_answer
member_vectors = record { opened = refl; said = refl; heard = refl; explained = refl }

pub answer_cases : (m : Member) (reason : Reason) → AnswerCases m reason
answer_cases m reason = record {
  started = refl;
  not_opened = refl;
  spoken = refl;
  not_said = refl;
  moved = refl;
  not_heard = refl;
  why = refl;
  not_explained = refl;
}
