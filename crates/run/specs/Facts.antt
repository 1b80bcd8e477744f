-- What holds of every run besides demand 3: what its definitions come to, process by process, and the facts that the bench and its readers rely
-- on. Proved in proofs/Rounds.antt, Reported.antt, NoneRefused.antt, OwnAnswers.antt, SilentSets.antt, Silence.antt and Theorem.antt. Assumes nothing.
use Rattle.std.specs.Prelude.{ℕ, suc, ◌+◌, ◌-◌, ◌≤◌, ◌<◌, ◌≡◌, ◌≢◌, List, true, false, length, get_or}
use Rattle.std.specs.Int.Count.{ones}
use Rattle.member.specs.declared.Member.{Member}
use Rattle.member.specs.Saying.{nothing}
use Rattle.sets.specs.Sets.{names}
use Rattle.schedule.specs.Schedule.{Schedule, vote_of, crash_of, reach_of, crashed_by}
use Rattle.run.specs.Protocol.{Protocol, fcwfa, by_calls}
use Rattle.run.specs.Run.{state_at, code_heard, row_of, states_after, after}
use Rattle.run.specs.Report.{given_round, sent, sent_after, report}
use Rattle.run.specs.Demand.{Completes, Decides, CompletesUndecided, round_b, SomeVotedZero, Demand3}
use Rattle.run.specs.CrashesSoFar.{NobodyUndecided, CrashesSoFar, LastRound, settling_of, LeftOpen}
use Rattle.run.specs.SilentSets.{SilentSets}
use Rattle.run.specs.Given.{GivenNoneBy, GivenPromises}
use Rattle.run.specs.Outcome.{outcome_round, outcome_decision, OutcomePromises}
use Rattle.run.specs.Why.{why_of, WhyPromises}

module _ (P : Protocol) (s : Schedule) where
  -- Who hears whom in round r, whatever the states at its start: what i hears from j.
  pub record WhoHearsWhom (r : ℕ) (states : List Member) (i j : ℕ) : Type 0 where
    -- what j says, if j never crashes or crashes in a later round; so a process that completes the round hears itself
    pub completing : Completes s r j → code_heard P s r states i j ≡ P.says (state_at states j)
    -- what j says, if j crashes in this round and its reach names i
    pub named : crash_of s j ≡ r → names (reach_of s j) i ≡ true → code_heard P s r states i j ≡ P.says (state_at states j)
    -- nothing, if j crashes in this round, not 0, and its reach does not name i
    pub unnamed : r ≢ 0 → crash_of s j ≡ r → names (reach_of s j) i ≡ false → code_heard P s r states i j ≡ nothing
    -- nothing, if j crashed before
    pub silent : 1 ≤ crash_of s j → crash_of s j < r → code_heard P s r states i j ≡ nothing

  -- What sender j adds to the messages of round r, whatever the states at its start.
  pub record WhatIsSent (r : ℕ) (states : List Member) (j : ℕ) : Type 0 where
    -- nothing, if it says nothing; n - 1, if it completes the round; the ones of its reach, if it crashes in the round; nothing, if it crashed before
    pub says_nothing : P.says (state_at states j) ≡ nothing → sent P s r states j ≡ 0
    pub completing : P.says (state_at states j) ≢ nothing → Completes s r j → sent P s r states j ≡ s.n - 1
    pub crashing : P.says (state_at states j) ≢ nothing → r ≢ 0 → crash_of s j ≡ r → sent P s r states j ≡ ones (reach_of s j)
    pub silent : 1 ≤ crash_of s j → crash_of s j < r → sent P s r states j ≡ 0

  -- What process i does in round r + 1.
  pub record WhoMoves (r i : ℕ) : Type 0 where
    pub opens : after P s 0 i ≡ P.opening s.n s.t (i + 1) (vote_of s i)
    -- a process that completes the round and is not stopped hears the row of the states at the round's start
    pub hears : Completes s (suc r) i → P.stopped (after P s r i) ≡ false
        → after P s (suc r) i ≡ P.hears (after P s r i) (row_of P s (suc r) (states_after P s r) i)
    -- one that crashes in the round or crashed before keeps its state, and so does one that is stopped
    pub crashed : 1 ≤ crash_of s i → crash_of s i ≤ suc r → after P s (suc r) i ≡ after P s r i
    pub rests : P.stopped (after P s r i) ≡ true → after P s (suc r) i ≡ after P s r i

  -- Nothing happens any more after r rounds: the states stay as they are, and no round that follows sends anything.
  pub record SilentFrom (r : ℕ) : Type 0 where
    pub states : (k : ℕ) → r ≤ k → states_after P s k ≡ states_after P s r
    pub sends : (k : ℕ) → r ≤ k → sent_after P s k ≡ 0

-- What demand 3 asks for is met where document 01 has it: a vote 0 of any process, and a process that never crashes or crashes later.
pub record Conditions (s : Schedule) : Type 0 where
  pub voted_zero : (k : ℕ) → k < s.n → vote_of s k ≡ 0 → SomeVotedZero s
  pub completes_always : (r i : ℕ) → i < s.n → crash_of s i ≡ 0 → Completes s r i
  pub completes_until : (r i : ℕ) → i < s.n → r < crash_of s i → Completes s r i

-- The reported f is the number of processes with crash rounds from 1 to t + 1. The reported decisions and rounds are those that the processes
-- decide, and 2 and 0 for one that does not; so whatever demand 3 says of deciding holds of the report's two tables. And of a process that completes a
-- round they give no decision by then exactly where it completes it undecided.
pub record Reported (s : Schedule) : Type 0 where
  pub crashes : (report fcwfa s).f ≡ crashed_by s (s.t + 1)
  pub decisions_long : length (report fcwfa s).decisions ≡ s.n
  pub rounds_long : length (report fcwfa s).rounds ≡ s.n
  pub decided : (i v r : ℕ) → Decides fcwfa s i v r → (get_or (report fcwfa s).decisions i 2 ≡ v) × (given_round (report fcwfa s) i ≡ r) × (v ≤ 1)
  pub decides : (i : ℕ) → i < s.n → given_round (report fcwfa s) i ≢ 0
      → Decides fcwfa s i (get_or (report fcwfa s).decisions i 2) (given_round (report fcwfa s) i)
  pub undecided : (i : ℕ) → i < s.n → given_round (report fcwfa s) i ≡ 0 → get_or (report fcwfa s).decisions i 2 ≡ 2
  pub given_none : (r i : ℕ) → r ≤ s.t + 1 → CompletesUndecided fcwfa s r i → GivenNoneBy s (report fcwfa s) r i
  pub none_given : (r i : ℕ) → r ≤ s.t + 1 → GivenNoneBy s (report fcwfa s) r i → CompletesUndecided fcwfa s r i

-- In a run no call of a member is refused, for any limit that lets n pass: no opening, no saying, and no row that a member hears.
pub record NoneRefused (P : Protocol) (limit : ℕ) (s : Schedule) : Type 0 where
  pub opens : (i : ℕ) → i < s.n → P.open_question limit s.n s.t (i + 1) (vote_of s i) ≡ 0
  pub says : (r i : ℕ) → r ≤ s.t + 1 → i < s.n → P.say_question limit (after P s r i) ≡ 0
  pub hears : (r i : ℕ) → r ≤ s.t → Completes s (suc r) i → P.stopped (after P s r i) ≡ false
      → P.hear_question limit (after P s r i) (row_of P s (suc r) (states_after P s r) i) ≡ 0

-- So the run is the members' own answers: the same states after each round, and the same messages in it.
pub record OwnAnswers (P : Protocol) (limit : ℕ) (s : Schedule) : Type 0 where
  pub states : (r : ℕ) → r ≤ s.t + 1 → states_after (by_calls limit P) s r ≡ states_after P s r
  pub sends : (r : ℕ) → r ≤ s.t → sent_after (by_calls limit P) s r ≡ sent_after P s r

-- All that is promised of the run of an accepted schedule. Proved in proofs/Theorem.antt:
-- `accepted_run : (s : Schedule) (limit : ℕ) (answers : Bool) → question s limit answers ≡ 0 → RunPromises limit s`
pub record RunPromises (limit : ℕ) (s : Schedule) : Type 0 where
  pub demand_3 : Demand3 s
  pub conditions : Conditions s
  -- by the crashes so far: what a process that completes round r undecided tells of the crashes, and in which round all have decided for that reason
  pub crashes_so_far : CrashesSoFar s (CompletesUndecided fcwfa s)
  pub last_round : LastRound s (CompletesUndecided fcwfa s)
  pub settled : NobodyUndecided (CompletesUndecided fcwfa s) (settling_of s)
  pub within_b : settling_of s ≤ round_b (report fcwfa s).f s.t
  -- and no round before the settling round will do, by the crash rounds alone
  pub no_sooner : (r : ℕ) → r < settling_of s → LeftOpen s r
  -- who was silent: what the set of each member names after each row that sets it
  pub silent_sets : SilentSets s
  pub reported : Reported s
  pub none_refused : NoneRefused fcwfa limit s
  pub own_answers : OwnAnswers fcwfa limit s
  -- A round in which nothing is sent is followed by nothing else, so a run may end there: n is at least 4, so a completing sender that says something
  -- adds at least 3.
  pub silence : (r : ℕ) → sent_after fcwfa s r ≡ 0 → SilentFrom fcwfa s r
  -- the outcome, which is answered without the whole run: what every process decides that decides, and the first round in which one does
  pub outcome : OutcomePromises s (outcome_decision fcwfa s) (outcome_round fcwfa s)
  -- why each process decided, or did not
  pub why : (i : ℕ) → i < s.n → WhyPromises s i (why_of s i)
  -- demand 3, the crashes so far and the deciders of the report itself, on its counts and its tables
  pub given : GivenPromises s (report fcwfa s)
