-- What is promised of what the bench gives for a schedule, on its counts and its two tables alone: demand 3, the crashes so far, the deciders. Proved
-- in proofs/Given.antt: `given_promises : (s : Schedule) → Rules s → GivenPromises s (report fcwfa s)`. Assumes nothing.
use Rattle.std.specs.Prelude.{ℕ, ◌≤◌, ◌<◌, ◌≡◌, ◌⊎◌, ◌≢◌, get_or}
use Rattle.schedule.specs.Schedule.{Schedule, vote_of}
use Rattle.run.specs.Report.{Report, given_round}
use Rattle.run.specs.Demand.{Completes, round_b, most_messages, SomeVotedZero}
use Rattle.run.specs.Deciders.{Deciders}
use Rattle.run.specs.CrashesSoFar.{NobodyUndecided, CrashesSoFar, LastRound, settling_of}

module _ (s : Schedule) (given : Report) where
  -- the tables give process i the decision v, in round r, not 0
  pub record Gives (i v r : ℕ) : Type 0 where
    pub process : i < s.n
    pub decision : get_or given.decisions i 2 ≡ v
    pub round : given_round given i ≡ r
    pub not_none : r ≢ 0

  -- they give it a decision, in round b or before
  pub record GivesBy (b i : ℕ) : Type 0 where
    pub value : ℕ
    pub in_round : ℕ
    pub gives : Gives i value in_round
    pub by : in_round ≤ b

  -- process i completes round r, and they give it no decision by then: its round is 0 or above r
  pub record GivenNoneBy (r i : ℕ) : Type 0 where
    pub completes_it : Completes s r i
    pub none_by : (given_round given i ≡ 0) ⊎ (r < given_round given i)

  -- round B by the count f that is given
  abbrev pub given_b : ℕ
  given_b = round_b given.f s.t

  pub record GivenDemand3 : Type 0 where
    -- any two processes that are given a decision, crashed ones included, are given the same
    pub agreement : (i k v x q r : ℕ) → Gives i v q → Gives k x r → v ≡ x
    -- if some process voted 0, every decision that is given is 0
    pub abort_validity : SomeVotedZero s → (i v r : ℕ) → Gives i v r → v ≡ 0
    -- every process that completes round B is given a decision, in round B or before
    pub round_b : (i : ℕ) → Completes s given_b i → GivesBy given_b i
    -- the messages that are given are within the bound of the f that is given
    pub message_bound : given.messages ≤ most_messages s.n s.t given.f
    -- if some process voted 0, every process that completes round 2 is given 0 in round 2
    pub weak_fast_abort : SomeVotedZero s → (i : ℕ) → Completes s 2 i → Gives i 0 2
    -- if all votes are 1 and the f that is given is 0, every process is given 1 in round 2
    pub fast_commit : ((k : ℕ) → k < s.n → vote_of s k ≡ 1) → given.f ≡ 0 → (i : ℕ) → i < s.n → Gives i 1 2

  pub record GivenPromises : Type 0 where
    pub demand_3 : GivenDemand3
    -- a process that completes round r and is given no decision by then has that many processes with crash rounds from 1 to r
    pub crashes_so_far : CrashesSoFar s GivenNoneBy
    -- every process that completes round t + 1 is given a decision by then, and so is every one that completes the settling round
    pub last_round : LastRound s GivenNoneBy
    pub settled : NobodyUndecided GivenNoneBy (settling_of s)
    -- so the last round that is given is at most the settling round
    pub last_settled : given.last ≤ settling_of s
    -- some process is given a decision, and which is the first of these and which round the last
    pub deciders : Deciders s given
