-- The refused schedules (document 01, "Marked schedules"), and the table of them with the questions that refuse them.
-- A contract cannot name a constant of the code, so the schedules stand here too, each with the question whose number document 01 gives. The numbers
-- are proved to be what the definitions give.
use Rattle.std.specs.Prelude.{ℕ, ◌≡◌, List, [], ◌∷◌, map, true, Option, Result, Ok, Err, IfSome, slice_get, take}
use Rattle.laws.specs.declared.question.Question.{Question}
use Rattle.laws.specs.declared.question.Question.TheVariants.{Size, Crashable, CrashRound, Reach, Crashes}
use Rattle.laws.specs.Question.{comes_to}
use Rattle.sets.specs.Largest.{largest}
use Rattle.schedule.specs.Schedule.{Schedule}
use Rattle.schedule.specs.Questions.{question}
use Rattle.refusals.specs.declared.Refusal.{Refusal}
use Rattle.schedule.specs.Four.{four, all_one, all_zero}

-- a schedule of n processes in the first n places of these tables
abbrev pub tabled : ℕ → ℕ → List ℕ → List ℕ → List ℕ → Schedule
tabled n t votes crashes reaches = record { n = n; t = t; votes = take n votes; crashes = take n crashes; reaches = take n reaches }

-- such a schedule and what its questions answer, as an entry of the table
abbrev pub refusal_of : ℕ → ℕ → List ℕ → List ℕ → List ℕ → Result (Unit {0}) Question → Refusal
refusal_of n t votes crashes reaches answer = record { n = n; t = t; votes = votes; crashes = crashes; reaches = reaches; answer = answer }

abbrev pub refusals : List Refusal
refusals =
    -- "n = 3 with a vote 2 (1)"
    refusal_of 3 3 (four 2 1 1 0) all_zero all_zero (Err Size) ∷
    -- "t = 4 at n = 4 (2)"
    refusal_of 4 4 all_one all_zero all_zero (Err Crashable) ∷
    -- "crash round 5 (5)"
    refusal_of 4 3 all_one (four 5 0 0 0) all_zero (Err CrashRound) ∷
    -- "while 4 passes"
    refusal_of 4 3 all_one (four 4 0 0 0) all_zero (Ok tt) ∷
    -- "1: 1/1000 (6)"
    refusal_of 4 3 all_one (four 1 0 0 0) (four 1 0 0 0) (Err Reach) ∷
    -- "four crashes (7)"
    refusal_of 4 3 all_one (four 1 1 1 1) all_zero (Err Crashes) ∷
    []

-- the schedule that an entry holds, and the number that its questions come to; 0 for one that passes
abbrev pub refused_schedule : Refusal → Schedule
refused_schedule r = tabled r.n r.t r.votes r.crashes r.reaches

abbrev pub number_due : Refusal → ℕ
number_due r = question (refused_schedule r) largest true

-- the entries of the table are these schedules, and each has the number that the definitions give
pub record RefusedTable (table : List Refusal) : Type 0 where
  pub entries : table ≡ refusals
  pub numbers : map number_due table ≡ map (λ r. comes_to r.answer) table

-- entry k, where the table has one
abbrev pub refusal_entry : ℕ → Option Refusal
refusal_entry k = slice_get refusals k

-- what `refusal_at` hands out for k
pub record RefusalAt (k : ℕ) (r : Option Refusal) : Type 0 where
  pub entry : r ≡ refusal_entry k
  pub number : IfSome r (λ refusal. number_due refusal ≡ comes_to refusal.answer)
