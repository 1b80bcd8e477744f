-- Schedules in tables with the number that their questions come to, written from document 01 by hand, and tables of crash rounds with their count,
-- written from document 02; and the statements that cover them. Proved in proofs/Vectors.antt by computing what the definitions give:
-- `schedule_vectors : ScheduleVectors`, `count_vectors_lem : CountVectors`.
use Rattle.std.specs.Prelude.{ℕ, ◌≡◌, List, [], ◌∷◌, map, replicate}
use Rattle.sets.specs.Largest.{largest}
use Rattle.schedule.specs.Four.{four, all_one, all_zero}
use Rattle.schedule.specs.Schedule.{Schedule, schedule_of}
use Rattle.schedule.specs.Questions.{answers_of, question}
use Rattle.schedule.specs.Counting.{looked_at, crashes_counted}

-- a schedule, the lengths of the answer tables of the call, and the number; 0 for one that passes
pub record Asked : Type 0 where
  pub schedule : Schedule
  pub decisions : ℕ
  pub rounds : ℕ
  pub number : ℕ

-- "n = 4, t = 3": with these tables and two answer tables of four
abbrev pub asked : List ℕ → List ℕ → List ℕ → ℕ → Asked
asked votes crashes reaches number = record { schedule = schedule_of 4 3 votes crashes reaches; decisions = 4; rounds = 4; number = number }

-- n processes that vote 1 and do not crash, with answer tables of n
abbrev pub quiet_cluster : ℕ → ℕ → ℕ → Asked
quiet_cluster n t number = record {
  schedule = schedule_of n t (replicate n 1) (replicate n 0) (replicate n 0);
  decisions = n;
  rounds = n;
  number = number;
}

-- a table of three, which is too short, and one of five
abbrev pub three : List ℕ
three = 2 ∷ 2 ∷ 2 ∷ []

abbrev pub five : List ℕ
five = 2 ∷ 2 ∷ 2 ∷ 2 ∷ 2 ∷ []

abbrev pub vectors : List Asked
vectors =
    -- "n from 4 to 32? 1", and "n goes to 64": 3 with t = 2 too, 65 with t = 65 too, and both ends pass, 33 too
    quiet_cluster 3 2 1 ∷
    quiet_cluster 65 65 1 ∷
    quiet_cluster 4 3 0 ∷
    quiet_cluster 33 32 0 ∷
    quiet_cluster 64 63 0 ∷
    -- "t from 3 to n − 1? 2": with tables of another length too
    record { schedule = schedule_of 4 2 three three three; decisions = 3; rounds = 3; number = 2 } ∷
    record { schedule = schedule_of 4 4 five five five; decisions = 5; rounds = 5; number = 2 } ∷
    -- "Each of the three input and two answer tables n long? 3": one of them too short or too long, the others with a vote 2
    asked three all_zero all_zero 3 ∷
    asked five all_zero all_zero 3 ∷
    asked (four 2 1 1 1) three all_zero 3 ∷
    asked (four 2 1 1 1) five all_zero 3 ∷
    asked (four 2 1 1 1) all_zero three 3 ∷
    asked (four 2 1 1 1) all_zero five 3 ∷
    record { schedule = schedule_of 4 3 (four 2 1 1 1) all_zero all_zero; decisions = 3; rounds = 4; number = 3 } ∷
    record { schedule = schedule_of 4 3 (four 2 1 1 1) all_zero all_zero; decisions = 5; rounds = 4; number = 3 } ∷
    record { schedule = schedule_of 4 3 (four 2 1 1 1) all_zero all_zero; decisions = 4; rounds = 3; number = 3 } ∷
    record { schedule = schedule_of 4 3 (four 2 1 1 1) all_zero all_zero; decisions = 4; rounds = 5; number = 3 } ∷
    -- "vote 0 or 1? 4; crash round at most t + 1? 5; reach as ruled above? 6": process 2 with vote 2, crash round 5 and itself in its reach, and with less of that
    asked (four 1 2 1 1) (four 0 5 0 0) (four 0 2 0 0) 4 ∷
    asked (four 1 1 1 1) (four 0 5 0 0) (four 0 2 0 0) 5 ∷
    asked (four 1 1 1 1) (four 0 4 0 0) (four 0 2 0 0) 6 ∷
    asked (four 1 0 1 1) (four 0 4 0 0) (four 0 13 0 0) 0 ∷
    -- "A reach names only processes 1 to n, .. and nobody where the crash round is 0."
    asked all_one (four 0 1 0 0) (four 0 16 0 0) 6 ∷
    asked all_one all_zero (four 0 1 0 0) 6 ∷
    -- "For each process in order": the reach of process 2 before the vote of process 3
    asked (four 1 1 2 1) (four 0 1 0 0) (four 0 2 0 0) 6 ∷
    -- "Then: f at most t? 7": four crashes, with a vote 2 of the last process, without it, and three crashes
    asked (four 1 1 1 2) (four 1 2 3 4) all_zero 4 ∷
    asked all_one (four 1 2 3 4) all_zero 7 ∷
    asked all_one (four 1 2 3 0) all_zero 0 ∷
    []

-- the questions of each come to its number
abbrev pub ScheduleVectors : Type 0
ScheduleVectors = map (λ a. question a.schedule largest (answers_of a.schedule.n a.decisions a.rounds)) vectors ≡ map (λ a. a.number) vectors

-- t, a table of crash rounds, and what its count answers: the count, and the number of the last process looked at
pub record Count : Type 0 where
  pub t : ℕ
  pub crashes : List ℕ
  pub count : ℕ
  pub looked : ℕ

abbrev pub counted : ℕ → List ℕ → ℕ → ℕ → Count
counted t crashes count looked = record { t = t; crashes = crashes; count = count; looked = looked }

abbrev pub count_vectors : List Count
count_vectors =
    -- an empty table has looked at nobody
    counted 3 [] 0 0 ∷
    counted 0 [] 0 0 ∷
    -- "n where there is no such crash": no crash, t crashes, and t crashes with the last at process n
    counted 3 all_zero 0 4 ∷
    counted 3 (four 1 2 3 0) 3 4 ∷
    counted 3 (four 0 2 3 4) 3 4 ∷
    -- "it shall end at the crash that makes t + 1 of them .. that crash's process": it is process n, there are more after it, it is process 1,
    -- processes that do not crash are passed over, and all five of five crash; a crash round of 255 is a crash like any other
    counted 3 (four 1 2 3 4) 4 4 ∷
    counted 1 (four 1 2 3 4) 2 2 ∷
    counted 0 (four 255 0 0 0) 1 1 ∷
    counted 0 (four 0 0 3 0) 1 3 ∷
    counted 1 (four 0 2 0 255) 2 4 ∷
    counted 1 five 2 2 ∷
    -- t + 1 is 2^64
    counted 18446744073709551615 (four 1 0 3 4) 3 4 ∷
    []

-- the count of each, and the last process that it looks at
pub record CountVectors : Type 0 where
  pub counts : map (λ c. crashes_counted c.t c.crashes) count_vectors ≡ map (λ c. c.count) count_vectors
  pub looks_at : map (λ c. looked_at c.t c.crashes) count_vectors ≡ map (λ c. c.looked) count_vectors
