-- The first decider and the last round of what the bench gives for a schedule, on its counts and its table of rounds alone. Proved in
-- proofs/Deciders.antt: `deciders : (s : Schedule) → Rules s → Deciders s (report fcwfa s)`. Assumes nothing.
use Rattle.std.specs.Prelude.{ℕ, ◌+◌, ◌≤◌, ◌<◌, ◌≡◌, ◌≢◌, true}
use Rattle.schedule.specs.Schedule.{Schedule, crash_of}
use Rattle.run.specs.Report.{Report, given_round, before}

module _ (s : Schedule) (given : Report) where
  -- process i is the first decider, and its number is given: it decided, and goes before every other process that did
  pub record FirstIs (i : ℕ) : Type 0 where
    pub named : given.first ≡ i + 1
    pub process : i < s.n
    pub decides : given_round given i ≢ 0
    pub goes_before : (k : ℕ) → k < s.n → k ≢ i → given_round given k ≢ 0 → before (crash_of s) (given_round given) i k ≡ true

  -- What follows of the first decider from that alone: its round is the smallest decided round; and if any process that never crashes decides in it, the
  -- first never crashes ("a crashed one doesn't reply"). Proved in proofs/Deciders.antt:
  -- `survivors_ahead : (s : Schedule) (given : Report) (i : ℕ) → FirstIs s given i → SurvivorsAhead s given i`.
  pub record SurvivorsAhead (i : ℕ) : Type 0 where
    pub smallest : (k : ℕ) → k < s.n → given_round given k ≢ 0 → given_round given i ≤ given_round given k
    pub survives : (k : ℕ) → k < s.n → given_round given k ≡ given_round given i → crash_of s k ≡ 0 → crash_of s i ≡ 0
    -- "and only then the lower number": of those in its round that never crash, and, where it crashes itself, of all in its round
    pub lowest_survivor : (k : ℕ) → k < s.n → given_round given k ≡ given_round given i → crash_of s k ≡ 0 → i ≤ k
    pub lowest_of_all : (k : ℕ) → k < s.n → given_round given k ≡ given_round given i → crash_of s i ≢ 0 → i ≤ k

  -- process i is one that decides in the last round that is given, and none decides later
  pub record LastIs (i : ℕ) : Type 0 where
    pub named : given.last ≡ given_round given i
    pub process : i < s.n
    pub decides : given_round given i ≢ 0
    pub latest : (k : ℕ) → k < s.n → given_round given k ≤ given.last

  -- Some process decides, so first and last are never empty.
  pub record Deciders : Type 0 where
    pub first : ℕ
    pub first_is : FirstIs first
    pub survivors_ahead : SurvivorsAhead first
    pub last : ℕ
    pub last_is : LastIs last
