-- The outcome of a schedule: what the cluster decides, and in which round some process first decides it. Proved in proofs/Outcome.antt:
-- `outcome_promises : (s : Schedule) → Rules s → OutcomePromises s (outcome_decision fcwfa s) (outcome_round fcwfa s)`. Assumes nothing.
use Rattle.std.specs.Prelude.{ℕ, suc, ◌+◌, ◌≤◌, ◌≡◌, List, Bool, not, ltb, eqb}
use Rattle.laws.specs.Below.{least}
use Rattle.member.specs.declared.Member.{Member}
use Rattle.schedule.specs.Schedule.{Schedule}
use Rattle.run.specs.Protocol.{Protocol, fcwfa}
use Rattle.run.specs.Run.{state_at, states_after}
use Rattle.run.specs.Report.{round_of, decision_of}
use Rattle.run.specs.Demand.{Decides}

-- the place of the lowest-numbered of n processes that is decided in these states, n if none is
unfoldable pub lowest_decided : ℕ → List Member → ℕ
lowest_decided n states = least n (λ i. not (eqb (round_of states i) 0))

module _ (P : Protocol) (s : Schedule) where
  -- whether some process is decided after r rounds
  abbrev pub some_decided : ℕ → Bool
  some_decided r = ltb (lowest_decided s.n (states_after P s r)) s.n

  -- "plays rounds until one in which some process decides": the first of rounds 1 to t + 1 after which some process is decided, t + 2 if none is
  unfoldable pub outcome_round : ℕ
  outcome_round = suc (least (s.t + 1) (λ k. some_decided (suc k)))

  -- the place of the lowest-numbered process that is decided after that round
  abbrev pub outcome_place : ℕ
  outcome_place = lowest_decided s.n (states_after P s outcome_round)

  -- its state then
  abbrev pub outcome_member : Member
  outcome_member = state_at (states_after P s outcome_round) outcome_place

  -- "and answers that value and round": its decision then
  unfoldable pub outcome_decision : ℕ
  outcome_decision = decision_of (states_after P s outcome_round) outcome_place

-- What is promised of the value v and the round r that are answered: "For every accepted schedule the value is the one that each deciding process has
-- in the full run, and the round is the smallest decided round there."
pub record OutcomePromises (s : Schedule) (v r : ℕ) : Type 0 where
  -- every process that decides in the full run decides this value
  pub same_value : (i x q : ℕ) → Decides fcwfa s i x q → x ≡ v
  -- and none in an earlier round
  pub none_earlier : (i x q : ℕ) → Decides fcwfa s i x q → r ≤ q
  -- some process decides it in this round, so there always is an outcome
  pub decider : ℕ
  pub decides : Decides fcwfa s decider v r
  -- it is commit or abort, in a round of the run; nobody decides in round 1
  pub commit_or_abort : v ≤ 1
  pub from_round_2 : 2 ≤ r
  pub in_the_run : r ≤ s.t + 1
