-- Demand 3: what holds of the whole run of every schedule that keeps the rules, and of what the bench reports of it, for every n and t with
-- 3 ≤ t < n. Proved in proofs/Demand.antt: `demand_3 : (s : Schedule) → Rules s → Demand3 s`. Assumes nothing.
use Rattle.std.specs.Prelude.{ℕ, ◌+◌, ◌-◌, ◌*◌, ◌≤◌, ◌<◌, min, ◌≡◌, ◌≢◌, true, cond, leb}
use Rattle.schedule.specs.Schedule.{Schedule, vote_of}
use Rattle.run.specs.Protocol.{Protocol, fcwfa}
use Rattle.run.specs.Run.{completes, state_at, after, final}
use Rattle.run.specs.Report.{round_of, report}

-- process i completes round r
pub record Completes (s : Schedule) (r i : ℕ) : Type 0 where
  pub process : i < s.n
  pub completed : completes s r i ≡ true

module _ (P : Protocol) (s : Schedule) where
  -- "A process decides v in round r if at the end of the run its decided round is r, not 0, and its estimate is v."
  pub record Decides (i v r : ℕ) : Type 0 where
    pub process : i < s.n
    pub round : round_of (final P s) i ≡ r
    pub not_none : r ≢ 0
    pub value : (state_at (final P s) i).estimate ≡ v

  -- "It completes round r undecided if it completes the round and its decided round is still 0 after it."
  pub record CompletesUndecided (r i : ℕ) : Type 0 where
    pub completes_it : Completes s r i
    pub undecided : (after P s r i).decided ≡ 0

-- round B of f crashes of t allowed: "B = f + 2 if f ≤ t − 2 and f + 1 otherwise". It is asked as f + 2 ≤ t, so that nothing is taken from a t below 2.
unfoldable pub round_b : ℕ → ℕ → ℕ
round_b f t = cond (leb (f + 2) t) (f + 2) (f + 1)

-- the most messages of n processes with f crashes of t allowed: "n × (n − 1) × the smaller of B + 1 and t + 1"
unfoldable pub most_messages : ℕ → ℕ → ℕ → ℕ
most_messages n t f = n * (n - 1) * min (round_b f t + 1) (t + 1)

-- some process voted 0, whether it crashes or not
pub record SomeVotedZero (s : Schedule) : Type 0 where
  pub voter : ℕ
  pub process : voter < s.n
  pub vote : vote_of s voter ≡ 0

pub record Demand3 (s : Schedule) : Type 0 where
  -- any two processes that decide, crashed ones included, decide the same
  pub agreement : (i k v x q r : ℕ) → Decides fcwfa s i v q → Decides fcwfa s k x r → v ≡ x
  -- if some process voted 0, every decision is 0, so none is 1
  pub abort_validity : SomeVotedZero s → (i v r : ℕ) → Decides fcwfa s i v r → v ≡ 0
  -- no process completes round B undecided
  pub round_b : (i : ℕ) → CompletesUndecided fcwfa s (round_b (report fcwfa s).f s.t) i → ⊥
  -- the reported messages are within the bound
  pub message_bound : (report fcwfa s).messages ≤ most_messages s.n s.t (report fcwfa s).f
  -- if some process voted 0, every process that completes round 2 decides 0 in round 2
  pub weak_fast_abort : SomeVotedZero s → (i : ℕ) → Completes s 2 i → Decides fcwfa s i 0 2
  -- if all votes are 1 and f is 0, every process decides 1 in round 2
  pub fast_commit : ((k : ℕ) → k < s.n → vote_of s k ≡ 1) → (report fcwfa s).f ≡ 0 → (i : ℕ) → i < s.n → Decides fcwfa s i 1 2
