-- Calls of the writer with their answers and the buffers after them, written from documents 01 and 02 by hand, and the statement that covers them. Proved in
-- proofs/Vectors.antt: `writer_vectors : WriterVectors` and `writing_cases : WritingCases`, by computing what the definitions give.
use Rattle.std.specs.Prelude.{ℕ, ◌≡◌, List, [], ◌∷◌, ◌++◌, map, replicate, Ok, Err}
use Prim.Native.String.{String}
use Rattle.laws.specs.Quoted.{quoted}
use Rattle.laws.specs.Answer.{Answer, accepted, refused}
use Rattle.laws.specs.Question.{answer_is}
use Rattle.laws.specs.declared.question.Question.TheVariants.{Room}
use Rattle.sets.specs.Largest.{largest}
use Rattle.schedule.specs.Four.{four, all_one, all_zero, four_voting1}
use Rattle.schedule.specs.Schedule.{Schedule, schedule_of}
use Rattle.writer.specs.Answers.{write_answer, buffer_after}

-- a schedule and the buffer lent with it; the answer, and the buffer after the call
pub record Call : Type 0 where
  pub schedule : Schedule
  pub lent : List ℕ
  pub answer : Answer ℕ (Unit {0})
  pub after : List ℕ

-- a buffer that holds 7 throughout
abbrev pub sevens : ℕ → List ℕ
sevens size = replicate size 7

-- a text of so many bytes is written into a buffer that has room for so many more
abbrev pub writes : Schedule → ℕ → ℕ → String → Call
writes s used more text = record { schedule = s; lent = sevens used ++ sevens more; answer = accepted used; after = quoted text ++ sevens more }

-- "Nothing lent is changed": a refusal with its number, of a buffer of so many bytes
abbrev pub refuses : Schedule → ℕ → ℕ → Call
refuses s size number = record { schedule = s; lent = sevens size; answer = refused number tt; after = sevens size }

-- case D: process 1 crashes in round 1 and reaches process 2
abbrev pub case_d : Schedule
case_d = four_voting1 (four 1 0 0 0) (four 2 0 0 0)

-- ten processes, of which the first crashes in round 10 and reaches the last, and the last in round 9 and reaches the first
abbrev pub ten : Schedule
ten = schedule_of 10 9 (0 ∷ replicate 9 1) ((10 ∷ replicate 8 0) ++ (9 ∷ [])) ((512 ∷ replicate 8 0) ++ (1 ∷ []))

abbrev pub calls : List Call
calls =
    -- "Case D, text", of 72 bytes: exactly so many are enough, and "Bytes after that length keep their contents"
    writes case_d 72 0 "n t\n4 3\nid vote crash reach\n1 1 1 0100\n2 1 0 0000\n3 1 0 0000\n4 1 0 0000\n" ∷
    writes case_d 72 1 "n t\n4 3\nid vote crash reach\n1 1 1 0100\n2 1 0 0000\n3 1 0 0000\n4 1 0 0000\n" ∷
    writes case_d 72 9 "n t\n4 3\nid vote crash reach\n1 1 1 0100\n2 1 0 0000\n3 1 0 0000\n4 1 0 0000\n" ∷
    -- "one or two digits without a leading zero", "place j for process j"
    writes ten 201 2 "n t\n10 9\nid vote crash reach\n1 0 10 0000000001\n2 1 0 0000000000\n3 1 0 0000000000\n4 1 0 0000000000\n5 1 0 0000000000\n6 1 0 0000000000\n7 1 0 0000000000\n8 1 0 0000000000\n9 1 0 0000000000\n10 1 9 1000000000\n" ∷
    -- "buffer long enough for the whole text? 18": one byte is missing, or all are
    refuses case_d 71 18 ∷
    refuses case_d 0 18 ∷
    -- "The table questions come first", also where the buffer is too short: 1, 2, 3 by each table, 4, 5, 6 and, of four crashes, 7
    refuses (schedule_of 3 3 all_one all_zero all_zero) 0 1 ∷
    refuses (schedule_of 4 4 all_one all_zero all_zero) 0 2 ∷
    refuses (schedule_of 4 3 (1 ∷ all_one) all_zero all_zero) 0 3 ∷
    refuses (schedule_of 4 3 all_one (0 ∷ all_zero) all_zero) 0 3 ∷
    refuses (schedule_of 4 3 all_one all_zero (0 ∷ 0 ∷ 0 ∷ [])) 0 3 ∷
    refuses (schedule_of 4 3 (four 1 2 1 1) (four 0 0 5 0) all_zero) 0 4 ∷
    refuses (four_voting1 (four 0 5 0 0) (four 0 2 2 0)) 0 5 ∷
    refuses (four_voting1 (four 0 0 1 0) (four 0 0 4 0)) 0 6 ∷
    refuses (four_voting1 (four 1 1 1 1) all_zero) 0 7 ∷
    -- and where it is long enough
    refuses (four_voting1 (four 1 1 1 1) all_zero) 80 7 ∷
    []

-- each of these calls has its answer, and leaves its buffer
pub record WriterVectors : Type 0 where
  pub answered : map (λ c. write_answer largest c.schedule c.lent) calls ≡ map (λ c. c.answer) calls
  pub left : map (λ c. buffer_after largest c.schedule c.lent) calls ≡ map (λ c. c.after) calls

-- What each case of the answer stands for.
pub record WritingCases : Type 0 where
  pub wrote : answer_is {A = ℕ} (Ok 72) ≡ accepted 72
  pub not_written : answer_is {A = ℕ} (Err Room) ≡ refused 18 tt
