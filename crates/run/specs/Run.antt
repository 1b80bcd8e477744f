-- The run of a schedule (document 01, "Who hears whom"), for any protocol. Processes are named by their places, counted from 0.
use Rattle.std.specs.Prelude.{ℕ, zero, suc, ◌+◌, List, Bool, cond, ◌&&◌, ◌||◌, not, get_or, ltb, eqb}
use Rattle.laws.specs.Below.{tabulate}
use Rattle.member.specs.declared.Member.{Member}
use Rattle.member.specs.Saying.{nothing}
use Rattle.sets.specs.Sets.{names}
use Rattle.schedule.specs.Schedule.{Schedule, vote_of, crash_of}
use Rattle.run.specs.Protocol.{Protocol, nobody}

-- "In round r a process with crash round c = 0 or c > r completes the round."
unfoldable pub completes_round : ℕ → ℕ → Bool
completes_round r c = eqb c 0 || ltb r c

-- Whether the process at place i hears in round r from j, whose crash round and reach are c and reach: "if j completes the round; or if j's crash
-- round is r and its reach names the hearer"
unfoldable pub is_heard : ℕ → ℕ → ℕ → ℕ → Bool
is_heard r i c reach = completes_round r c || (eqb c r && names reach i)

-- what it hears from j: "what j says", the code, if it hears from j, "else nothing"
unfoldable pub delivered : ℕ → ℕ → ℕ → ℕ → ℕ → ℕ
delivered r i c reach code = cond (is_heard r i c reach) code nothing

-- process i of a schedule completes round r
abbrev pub completes : Schedule → ℕ → ℕ → Bool
completes s r i = completes_round r (crash_of s i)

-- Of processes whose crash rounds and reaches stand in these tables, in round r, in which the process at place j says `code j`: what i hears from j.
abbrev pub heard_from : List ℕ → List ℕ → ℕ → (ℕ → ℕ) → ℕ → ℕ → ℕ
heard_from crashes reaches r code i j = delivered r i (get_or crashes j 0) (get_or reaches j 0) (code j)

-- the state at place i of the states side by side; every place below n holds one
abbrev pub state_at : List Member → ℕ → Member
state_at states i = get_or states i nobody

-- The state after round r of a process with crash round c, from its state and its row: "A process that completes the round hears its row, unless it
-- is stopped. Every other keeps its state"
unfoldable pub state_after : Protocol → ℕ → ℕ → Member → List ℕ → Member
state_after P r c state row = cond (completes_round r c && not (P.stopped state)) (P.hears state row) state

-- the code that the process at place j of these states says
abbrev pub code_said : Protocol → List Member → ℕ → ℕ
code_said P states j = P.says (state_at states j)

module _ (P : Protocol) (s : Schedule) where
  -- what process i hears from j in round r, of the states at its start
  unfoldable pub code_heard : ℕ → List Member → ℕ → ℕ → ℕ
  code_heard r states = heard_from s.crashes s.reaches r (code_said P states)

  -- the row of codes that process i hears in round r, of the states at its start
  unfoldable pub row_of : ℕ → List Member → ℕ → List ℕ
  row_of r states i = tabulate s.n (code_heard r states i)

  -- the state of process i after round r, of the states at its start
  unfoldable pub next_state : ℕ → List Member → ℕ → Member
  next_state r states i = state_after P r (crash_of s i) (state_at states i) (row_of r states i)

  -- round r of all processes: "All rows of a round come from the states at its start."
  unfoldable pub played : ℕ → List Member → List Member
  played r states = tabulate s.n (next_state r states)

  -- "every member is opened with n, t, its own number and its vote"
  unfoldable pub opened : List Member
  opened = tabulate s.n (λ i. P.opening s.n s.t (i + 1) (vote_of s i))

  -- "Then rounds 1 to t + 1 are played in order, each from the states that the round before left": the states after r rounds
  unfoldable pub states_after : ℕ → List Member
  states_after zero = opened
  states_after (suc r) = played (suc r) (states_after r)

  -- process i after r rounds
  unfoldable pub after : ℕ → ℕ → Member
  after r i = state_at (states_after r) i

  -- the states at the end of the run
  unfoldable pub final : List Member
  final = states_after (s.t + 1)
