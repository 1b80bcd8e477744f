-- What the rounds of a schedule leave, and the answer for any schedule, accepted or refused.
use Rattle.std.specs.Prelude.{ℕ, ◌≡◌, List, Bool}
use Rattle.laws.specs.Below.{sum, tabulate}
use Rattle.laws.specs.Answer.{Answer, answer}
use Rattle.sets.specs.Largest.{largest}
use Rattle.member.specs.declared.Member.{Member}
use Rattle.schedule.specs.Schedule.{Schedule}
use Rattle.schedule.specs.Questions.{question}
use Rattle.run.specs.Protocol.{Protocol}
use Rattle.run.specs.Run.{state_at, states_after}
use Rattle.run.specs.Report.{sent_after}
use Rattle.execution.specs.declared.Ran.{Ran}

module _ (P : Protocol) where
  -- the states after r rounds, with nobody at the places from n on, and the messages of these rounds
  abbrev pub members_after : Schedule → ℕ → List Member
  members_after s r = tabulate largest (state_at (states_after P s r))

  abbrev pub messages_after : Schedule → ℕ → ℕ
  messages_after s r = sum r (sent_after P s)

  -- what r rounds of an accepted schedule leave
  pub record Plays (s : Schedule) (r : ℕ) (members : List Member) (messages : ℕ) : Type 0 where
    pub states : members ≡ members_after s r
    pub counted : messages ≡ messages_after s r

  -- The states after r rounds of a schedule, and the messages of these rounds; or the number of the first question whose answer is no. `limit` is the
  -- largest n that is accepted.
  abbrev pub ran_of : ℕ → Schedule → Bool → ℕ → Answer Ran (Unit {0})
  ran_of limit s answers r = answer (question s limit answers) (record { members = members_after s r; messages = messages_after s r }) tt
