-- What the calls answer: the value, or the number of the first question whose answer is no.
-- `tt` stands for nothing: a refusal that gives back its number only.
use Rattle.std.specs.Prelude.{ℕ, List}
use Rattle.laws.specs.Answer.{Answer, answer}
use Rattle.member.specs.declared.Member.{Member}
use Rattle.member.specs.declared.Reason.{Reason}
use Rattle.member.specs.Opening.{opening, open_question}
use Rattle.member.specs.Saying.{says}
use Rattle.member.specs.Hearing.{hears}
use Rattle.member.specs.Reasons.{reason_heard}
use Rattle.member.specs.Questions.{say_question, hear_question}

-- "A refused opening or saying returns its number only"
unfoldable pub open_answer : ℕ → ℕ → ℕ → ℕ → ℕ → Answer Member (Unit {0})
open_answer limit n t id vote = answer (open_question limit n t id vote) (opening n t id vote) tt

unfoldable pub say_answer : ℕ → Member → Answer ℕ (Unit {0})
say_answer limit m = answer (say_question limit m) (says m) tt

-- "a refused hearing returns its number and the state given"
unfoldable pub hear_answer : ℕ → Member → List ℕ → Answer Member Member
hear_answer limit m row = answer (hear_question limit m row) (hears m row) m

-- why a member decides by a row: its questions are those of hearing the row
unfoldable pub explain_answer : ℕ → Member → List ℕ → Answer Reason (Unit {0})
explain_answer limit m row = answer (hear_question limit m row) (reason_heard m row) tt
