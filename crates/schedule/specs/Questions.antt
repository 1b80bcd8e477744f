-- The questions before a run of a schedule in tables, and the rules that they ask for.
use Rattle.std.specs.Prelude.{ℕ, ◌+◌, ◌^◌, ◌≤◌, ◌<◌, ◌≡◌, Bool, true, false, ◌&&◌, ◌||◌, not, length, leb, eqb}
use Rattle.laws.specs.Answer.{ask, and_then, ask_each}
use Rattle.member.specs.Opening.{size_questions}
use Rattle.sets.specs.Sets.{names, names_others}
use Rattle.schedule.specs.Schedule.{Schedule, vote_of, crash_of, reach_of, crash_count}

-- "A reach names only processes 1 to n, never its own process, and nobody where the crash round is 0.": of the process at place i
unfoldable pub reach_right : ℕ → ℕ → ℕ → ℕ → Bool
reach_right n i crash reach = names_others n i reach && (not (eqb crash 0) || eqb reach 0)

-- "vote 0 or 1? 4; crash round at most t + 1? 5; reach as ruled above? 6", of the process at place i
unfoldable pub entry_question : ℕ → ℕ → ℕ → ℕ → ℕ → ℕ → ℕ
entry_question n t i vote crash reach =
    ask (leb vote 1) 4
    (ask (leb crash (t + 1)) 5
    (ask (reach_right n i crash reach) 6
    0))

-- "Each of the three input .. tables n long?": three tables of these lengths have so many entries each
unfoldable pub tables_of : ℕ → ℕ → ℕ → ℕ → Bool
tables_of size votes crashes reaches = eqb votes size && (eqb crashes size && eqb reaches size)

-- "Each of the .. two answer tables n long?": two tables of these lengths
unfoldable pub answers_of : ℕ → ℕ → ℕ → Bool
answers_of n decisions rounds = eqb decisions n && eqb rounds n

module _ (s : Schedule) where
  -- of a schedule
  abbrev pub tables_long : Bool
  tables_long = tables_of s.n (length s.votes) (length s.crashes) (length s.reaches)

  -- "For each process in order": questions 4 to 6 of the process at place i
  abbrev pub process_question : ℕ → ℕ
  process_question i = entry_question s.n s.t i (vote_of s i) (crash_of s i) (reach_of s i)

  -- Questions 1 to 7 in document 01's order. `limit` is the largest n that is accepted; `answers` tells whether the answer tables that the
  -- call takes are n long, and is true for a call that takes none.
  unfoldable pub question : ℕ → Bool → ℕ
  question limit answers =
      size_questions limit s.n s.t
      (ask (tables_long && answers) 3
      (and_then (ask_each s.n process_question)
      (ask (leb (crash_count s) s.t) 7
      0)))

  -- The rules of the processes in a schedule, as questions 4 to 6 ask for them.
  pub record ProcessRules (i : ℕ) : Type 0 where
    pub vote : vote_of s i ≤ 1
    pub crash : crash_of s i ≤ s.t + 1
    pub reach : reach_of s i < 2 ^ s.n
    pub not_own : names (reach_of s i) i ≡ false
    pub never : crash_of s i ≡ 0 → reach_of s i ≡ 0

  -- Rules 2 and 4 to 7. There is no upper limit on n.
  pub record Rules : Type 0 where
    pub t_low : 3 ≤ s.t
    pub t_high : s.t < s.n
    pub process : (i : ℕ) → i < s.n → ProcessRules i
    pub few : crash_count s ≤ s.t

  -- What a schedule keeps whose questions are all answered by yes.
  pub record Accepted (limit : ℕ) (answers : Bool) : Type 0 where
    pub n_low : 4 ≤ s.n
    pub n_high : s.n ≤ limit
    pub votes_long : length s.votes ≡ s.n
    pub crashes_long : length s.crashes ≡ s.n
    pub reaches_long : length s.reaches ≡ s.n
    pub answers_long : answers ≡ true
    pub rules : Rules
