-- A schedule: the size of a cluster, how many crashes it is set up to bear, and the votes and crashes of its processes.
-- The process at place i of the tables, counted from 0, has the number i + 1. Definitions and laws speak of places.
use Rattle.std.specs.Prelude.{ℕ, List, Bool, not, get_or, eqb}
use Rattle.laws.specs.Test.{within}
use Rattle.laws.specs.Below.{count}
use Rattle.schedule.specs.declared.Tables.{Tables}

pub record Schedule : Type 0 where
  pub n : ℕ
  pub t : ℕ
  -- "A vote is 0 (abort) or 1 (commit). A crash round is 0 (never) or 1 to t + 1. A reach names the processes that get the message of the crash round"
  pub votes : List ℕ
  pub crashes : List ℕ
  pub reaches : List ℕ

-- the schedule of a call's arguments
abbrev pub schedule_of : ℕ → ℕ → List ℕ → List ℕ → List ℕ → Schedule
schedule_of n t votes crashes reaches = record { n = n; t = t; votes = votes; crashes = crashes; reaches = reaches }

-- the schedule of the tables that a call is lent
abbrev pub schedule_lent : Tables → Schedule
schedule_lent given = schedule_of given.n given.t given.votes.now given.crashes.now given.reaches.now

-- whether a process with crash round c crashes, in whatever round: its "crash round isn't 0"
abbrev pub ever_crashes : ℕ → Bool
ever_crashes c = not (eqb c 0)

-- "f is the number of processes whose crash round isn't 0.": of the first n of a table of crash rounds
unfoldable pub crashes_in : ℕ → List ℕ → ℕ
crashes_in n crashes = count n (λ i. ever_crashes (get_or crashes i 0))

module _ (s : Schedule) where
  -- the vote, the crash round and the reach of the process at place i
  abbrev pub vote_of : ℕ → ℕ
  vote_of i = get_or s.votes i 0

  abbrev pub crash_of : ℕ → ℕ
  crash_of i = get_or s.crashes i 0

  abbrev pub reach_of : ℕ → ℕ
  reach_of i = get_or s.reaches i 0

  -- the f of the schedule
  abbrev pub crash_count : ℕ
  crash_count = crashes_in s.n s.crashes

  -- how many processes have crash rounds from 1 to r
  unfoldable pub crashed_by : ℕ → ℕ
  crashed_by r = count s.n (λ i. within 1 (crash_of i) r)
