-- What is left by the rounds of a schedule that end with the first in which some process decides, for any schedule, accepted or refused.
use Rattle.std.specs.Prelude.{ℕ, ◌≡◌, true}
use Rattle.laws.specs.Answer.{Answer, answer}
use Rattle.member.specs.declared.Member.{Member}
use Rattle.schedule.specs.Schedule.{Schedule}
use Rattle.schedule.specs.Questions.{question}
use Rattle.run.specs.Protocol.{Protocol}
use Rattle.run.specs.Outcome.{outcome_round, outcome_member}
use Rattle.execution.specs.declared.FirstDecision.{FirstDecision}

module _ (P : Protocol) where
  -- what is left of an accepted schedule
  pub record FirstDecides (s : Schedule) (round : ℕ) (m : Member) : Type 0 where
    pub in_round : round ≡ outcome_round P s
    pub member_is : m ≡ outcome_member P s

  -- The first round after which some process is decided, and the lowest-numbered member that is then; or the number of the first question whose answer
  -- is no, of a call without answer tables. `limit` is the largest n that is accepted.
  abbrev pub first_decision_of : ℕ → Schedule → Answer FirstDecision (Unit {0})
  first_decision_of limit s = answer (question s limit true) (record { round = outcome_round P s; member = outcome_member P s }) tt
