-- Who was silent, document 02's K7, in a run: what the silent set of a member names after a row that sets it. Proved in proofs/SilentSets.antt, for every
-- n and t with 3 ≤ t < n: `silent_sets : (s : Schedule) → Rules s → SilentSets s`. Assumes nothing.
use Rattle.std.specs.Prelude.{ℕ, suc, ◌≤◌, ◌<◌, ◌≡◌, ◌⊎◌, true, false, not}
use Rattle.member.specs.Hearing.{tally_of, sets_silent}
use Rattle.sets.specs.Sets.{names}
use Rattle.schedule.specs.Schedule.{Schedule, crash_of, reach_of}
use Rattle.run.specs.Protocol.{fcwfa}
use Rattle.run.specs.Run.{row_of, states_after, after}
use Rattle.run.specs.Demand.{Completes}

module _ (s : Schedule) where
  -- In round r + 1 process i hears a row that sets its silent set: it completes the round, and the row is such a one, so that it is undecided.
  pub record SetsInRound (r i : ℕ) : Type 0 where
    pub completes_it : Completes s (suc r) i
    pub sets_it : sets_silent (after fcwfa s r i) (tally_of (row_of fcwfa s (suc r) (states_after fcwfa s r) i)) ≡ true

  -- "after a row that sets it in round r, it names each process that crashed before round r and none whose crash round is 0 or above r": the set of
  -- process i. One that crashes in r is named exactly if its message did not come to process i.
  pub record NamesCrashed (r i set : ℕ) : Type 0 where
    pub each : (j : ℕ) → j < s.n → 1 ≤ crash_of s j → crash_of s j < r → names set j ≡ true
    pub none : (j : ℕ) → j < s.n → (crash_of s j ≡ 0) ⊎ (r < crash_of s j) → names set j ≡ false
    pub crashing : (j : ℕ) → j < s.n → crash_of s j ≡ r → names set j ≡ not (names (reach_of s j) i)

  -- of every process and every round of the run
  abbrev pub SilentSets : Type 0
  SilentSets = (r i : ℕ) → r ≤ s.t → SetsInRound r i → NamesCrashed (suc r) i (after fcwfa s (suc r) i).silent
