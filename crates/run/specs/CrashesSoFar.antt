-- Decided by the crashes so far, document 02's K8: what a process that completes a round undecided tells of the crashes, and in which round all have
-- decided for that reason. `Undecided r i` says that process i completes round r undecided: in the run that is `CompletesUndecided fcwfa s`, and by
-- what is given for it `GivenNoneBy s given`. Proved of both, for every n and t with 3 ≤ t < n, in proofs/CrashesSoFar.antt and Given.antt; what
-- follows from it, whatever `Undecided` is and for every t, in proofs/RoundB.antt. Assumes nothing.
use Rattle.std.specs.Prelude.{ℕ, ◌+◌, ◌-◌, ◌≤◌, ◌≡◌, Bool, cond, ltb}
use Rattle.laws.specs.Below.{least}
use Rattle.schedule.specs.Schedule.{Schedule, crash_count, crashed_by}
use Rattle.schedule.specs.Questions.{Accepted}
use Rattle.run.specs.Protocol.{fcwfa}
use Rattle.run.specs.Demand.{CompletesUndecided, round_b}

-- nobody completes round r undecided
abbrev pub NobodyUndecided : (ℕ → ℕ → Type 0) → ℕ → Type 0
NobodyUndecided Undecided r = (i : ℕ) → Undecided r i → ⊥

module _ (s : Schedule) (Undecided : ℕ → ℕ → Type 0) where
  -- "In FCWFA, a process that completes round r undecided, r from 2 to t − 1, has at least r − 1 processes with crash rounds from 1 to r. If r is t,
  -- there are at least t such processes."
  pub record CrashesSoFar : Type 0 where
    pub early : (r i : ℕ) → 2 ≤ r → r ≤ s.t - 1 → Undecided r i → r - 1 ≤ crashed_by s r
    pub round_t : (i : ℕ) → Undecided s.t i → s.t ≤ crashed_by s s.t

  -- "the last round's rule": nobody completes round t + 1 undecided
  abbrev pub LastRound : Type 0
  LastRound = NobodyUndecided Undecided (s.t + 1)

-- "the old round B should come out of it, for f = t together with the last round's rule": from the crashes so far, that rule and f ≤ t, and from
-- nothing else of a run. Proved in proofs/RoundB.antt: `round_b_follows : RoundBFollows`.
abbrev pub RoundBFollows : Type 1
RoundBFollows = (s : Schedule) (Undecided : ℕ → ℕ → Type 0) → CrashesSoFar s Undecided → LastRound s Undecided → crash_count s ≤ s.t
    → NobodyUndecided Undecided (round_b (crash_count s) s.t)

-- The settling round, of t and of how many processes have crash rounds from 1 to r, `crashed r`: the least round by which every process that
-- completes it has decided, as far as the crash rounds tell. It is the first r from 2 to t − 1 with fewer than r − 1 crashes by r, else t if there
-- are fewer than t by t, else t + 1.
module _ (t : ℕ) (crashed : ℕ → ℕ) where
  -- fewer than r − 1 crashes by r
  abbrev pub few_by : ℕ → Bool
  few_by r = ltb (crashed r) (r - 1)

  -- the first such r from 2 to t − 1; it is not below t if there is none
  unfoldable pub early_round : ℕ
  early_round = 2 + least (t - 2) (λ k. few_by (2 + k))

  unfoldable pub settling_round : ℕ
  settling_round =
      cond (ltb early_round t) early_round
      (cond (ltb (crashed t) t) t
      (t + 1))

-- of a schedule: of its crash rounds alone, whatever the votes and the reaches
abbrev pub settling_of : Schedule → ℕ
settling_of s = settling_round s.t (crashed_by s)

-- Nobody completes it undecided, and it is at most B. Proved in proofs/RoundB.antt: `settling_follows : SettlingFollows`, `within_b : WithinB`.
abbrev pub SettlingFollows : Type 1
SettlingFollows = (s : Schedule) (Undecided : ℕ → ℕ → Type 0) → CrashesSoFar s Undecided → LastRound s Undecided
    → NobodyUndecided Undecided (settling_of s)

abbrev pub WithinB : Type 0
WithinB = (s : Schedule) → crash_count s ≤ s.t → settling_of s ≤ round_b (crash_count s) s.t

-- The crash rounds of s leave it open whether all have decided in round r: there is a schedule with the same n, t and crash rounds, accepted wherever s
-- is, in which some process completes round r undecided. Proved in proofs/LeftOpen.antt, so no round before the settling round will do:
-- `no_sooner : (s : Schedule) → Rules s → (r : ℕ) → r < settling_of s → LeftOpen s r`.
pub record LeftOpen (s : Schedule) (r : ℕ) : Type 0 where
  pub other : Schedule
  pub same_n : other.n ≡ s.n
  pub same_t : other.t ≡ s.t
  pub same_crashes : other.crashes ≡ s.crashes
  pub accepted : (limit : ℕ) (answers : Bool) → Accepted s limit answers → Accepted other limit answers
  pub process : ℕ
  pub undecided : CompletesUndecided fcwfa other r process
