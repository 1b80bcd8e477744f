-- What the definitions of a schedule, and of a count of crashes, come to. Proved in proofs/: `count_facts` (Counting.antt), `schedule_facts` (Facts.antt).
use Rattle.std.specs.Prelude.{ℕ, ◌+◌, ◌≤◌, ◌<◌, ◌≡◌, ◌⊎◌, Bool, true, List, leb, length, get_or}
use Rattle.std.specs.Int.Count.{ones}
use Rattle.laws.specs.Below.{count}
use Rattle.sets.specs.Sets.{names}
use Rattle.schedule.specs.Schedule.{Schedule, reach_of, ever_crashes, crashes_in, crash_count, crashed_by}
use Rattle.schedule.specs.Questions.{question, ProcessRules, Rules, Accepted}
use Rattle.schedule.specs.Counting.{looked_at, crashes_counted}

-- The count ends at the process at place i: it crashes, t before it do, and "that crash's process" has the number i + 1.
pub record EndsAt (t : ℕ) (crashes : List ℕ) (i : ℕ) : Type 0 where
  pub below : i < length crashes
  pub crashes_there : ever_crashes (get_or crashes i 0) ≡ true
  pub before : crashes_in i crashes ≡ t
  pub looked_at : looked_at t crashes ≡ i + 1
  pub counted : crashes_counted t crashes ≡ t + 1

-- The count of crashes that ends sooner, of any t and any table.
pub record CountFacts (t : ℕ) (crashes : List ℕ) : Type 0 where
  -- "it shall end at the crash that makes t + 1 of them": where more than t processes crash, there is one at which it ends
  pub ends : t < crashes_in (length crashes) crashes → (i : ℕ) × EndsAt t crashes i
  -- "or n where there is no such crash": then the count is the full one
  pub full_count : crashes_in (length crashes) crashes ≤ t → crashes_counted t crashes ≡ crashes_in (length crashes) crashes
  pub full_look : crashes_in (length crashes) crashes ≤ t → looked_at t crashes ≡ length crashes
  -- "f at most t?" has the answer of "the count at most t?"
  pub asks_7 : leb (crashes_in (length crashes) crashes) t ≡ leb (crashes_counted t crashes) t

pub record ScheduleFacts (s : Schedule) : Type 0 where
  -- the questions come to 0 exactly where n is in its limits, the tables are n long and the rules are kept
  pub passes : (limit : ℕ) (answers : Bool) → question s limit answers ≡ 0 → Accepted s limit answers
  pub passed_by : (limit : ℕ) (answers : Bool) → Accepted s limit answers → question s limit answers ≡ 0
  -- f is the number of processes with crash rounds from 1 to t + 1
  pub all_crashes : Rules s → crashed_by s (s.t + 1) ≡ crash_count s
  -- where no question before 7 has the answer no, the number is 7 exactly where the count is t + 1
  pub number_7 : (limit : ℕ) (answers : Bool) → question s limit answers ≡ 7 → crashes_counted s.t s.crashes ≡ s.t + 1
  pub by_count : (limit : ℕ) (answers : Bool) → (question s limit answers ≡ 0) ⊎ (question s limit answers ≡ 7) → crashes_counted s.t s.crashes ≡ s.t + 1 → question s limit answers ≡ 7
  -- "For accepted schedules f is still the full count.", and all n processes are looked at
  pub f_counted : (limit : ℕ) (answers : Bool) → Accepted s limit answers → crashes_counted s.t s.crashes ≡ crash_count s
  pub all_looked_at : (limit : ℕ) (answers : Bool) → Accepted s limit answers → looked_at s.t s.crashes ≡ s.n
  -- the ones of a reach are as many as the processes that it names
  pub ones_named : (i : ℕ) → ProcessRules s i → ones (reach_of s i) ≡ count s.n (names (reach_of s i))
