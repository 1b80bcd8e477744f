-- A protocol, as the run sees it: what one of its members does, and the questions of its calls. The run takes any protocol whose members have
-- the numbers of `Member` for their state; demand 3 is about FCWFA.
use Rattle.std.specs.Prelude.{ℕ, List, Bool}
use Rattle.laws.specs.Answer.{place_after}
use Rattle.member.specs.declared.Member.{Member}
use Rattle.member.specs.Opening.{opening as Opening·opening, open_question as Opening·open_question}
use Rattle.member.specs.State.{stopped as State·stopped}
use Rattle.member.specs.Saying.{nothing, says as Saying·says}
use Rattle.member.specs.Hearing.{hears as Hearing·hears}
use Rattle.member.specs.Questions.{say_question as Questions·say_question, hear_question as Questions·hear_question}

pub record Protocol : Type 1 where
  -- the state of a member opened with n, t, its own number and its vote
  pub opening : ℕ → ℕ → ℕ → ℕ → Member
  pub stopped : Member → Bool
  -- the code of what it says, 0 for nothing
  pub says : Member → ℕ
  -- the state after a row of codes
  pub hears : Member → List ℕ → Member
  -- the number of the first question of an opening, a saying and a hearing whose answer is no, or 0: the first argument is the largest n that is accepted
  pub open_question : ℕ → ℕ → ℕ → ℕ → ℕ → ℕ
  pub say_question : ℕ → Member → ℕ
  pub hear_question : ℕ → Member → List ℕ → ℕ

-- FCWFA, by the member's own definitions
abbrev pub fcwfa : Protocol
fcwfa = record {
  opening = Opening·opening;
  stopped = State·stopped;
  says = Saying·says;
  hears = Hearing·hears;
  open_question = Opening·open_question;
  say_question = Questions·say_question;
  hear_question = Questions·hear_question;
}

-- what stands at a place that holds no member
abbrev pub nobody : Member
nobody = record { n = 0; t = 0; id = 0; round = 0; estimate = 0; decided = 0; silent = 0 }

-- A protocol by what the calls of its members answer, in clusters of up to `limit`: where an opening is refused nobody stands, a member that is
-- refused its saying says nothing, and "a refused hearing returns .. the state given".
abbrev pub by_calls : ℕ → Protocol → Protocol
by_calls limit P = record {
  opening = λ n t id vote. place_after (P.open_question limit n t id vote) (P.opening n t id vote) nobody;
  stopped = P.stopped;
  says = λ m. place_after (P.say_question limit m) (P.says m) nothing;
  hears = λ m row. place_after (P.hear_question limit m row) (P.hears m row) m;
  open_question = P.open_question;
  say_question = P.say_question;
  hear_question = P.hear_question;
}
