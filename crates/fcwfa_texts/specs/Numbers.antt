-- What the writer and the reader give as numbers: 0 or the number of a refusal; the length that was used; n and t, or the line of a refusal.
use Rattle.std.specs.Prelude.{ℕ, ◌≡◌, List, [], ◌∷◌, length, get_or, Ok, Err}
use Rattle.laws.specs.Answer.{Answer, accepted, refused, place_after}
use Rattle.laws.specs.declared.question.Question.{Question}
use Rattle.laws.specs.Question.{question_number}
use Rattle.sets.specs.Largest.{largest}
use Rattle.schedule.specs.Schedule.{Schedule}
use Rattle.text.specs.declared.Sizes.{Sizes}
use Rattle.text.specs.Written.{text_of}
use Rattle.text.specs.Reading.{longest}
use Rattle.reader.specs.Answers.{read_answer, votes_after, crashes_after, reaches_after, Reads}
use Rattle.writer.specs.Answers.{write_question, buffer_after, WritesSchedule}

-- "The first "no" gives its number.", and 0 is given where there is none
abbrev pub number_of : {A B : Type 0} → Answer A B → ℕ
number_of (accepted value) = 0
number_of (refused number back) = number

-- Three numbers after a reading: n and t with the third as it was lent, or the line of a refusal at the third place with the first two as they were lent.
abbrev pub read_numbers : Answer Sizes ℕ → List ℕ → List ℕ
read_numbers (accepted sizes) lent = sizes.n ∷ sizes.t ∷ get_or lent 2 0 ∷ []
read_numbers (refused number line) lent = get_or lent 0 0 ∷ get_or lent 1 0 ∷ line ∷ []

-- What holds of them. Proved in proofs/InOrder.antt: `numbers_in_order : NumbersInOrder`.
pub record NumbersInOrder : Type 0 where
  -- "n, t, and on a refusal the line's number": n = 4 and t = 3 of case D, and a refusal with 5 on line 6, in a place that held 7, 8 and 9
  pub sizes : read_numbers (accepted (record { n = 4; t = 3 })) (7 ∷ 8 ∷ 9 ∷ []) ≡ 4 ∷ 3 ∷ 9 ∷ []
  pub line : read_numbers (refused 5 6) (7 ∷ 8 ∷ 9 ∷ []) ≡ 7 ∷ 8 ∷ 6 ∷ []
  pub no_refusal : number_of {A = Sizes} {B = ℕ} (accepted (record { n = 4; t = 3 })) ≡ 0
  pub refusal : number_of {A = Sizes} {B = ℕ} (refused 5 6) ≡ 5

-- What the writing call promises of a schedule, and of the buffer and the place for a length that it is lent: of the number that it answers, and of what
-- stands in them after it.
pub record WritesNumbers (s : Schedule) (text : List ℕ) (used number : ℕ) (text_now : List ℕ) (used_now : ℕ) : Type 0 where
  pub number_is : number ≡ write_question largest s text
  pub text_written : text_now ≡ buffer_after largest s text
  pub used_given : used_now ≡ place_after (write_question largest s text) (length (text_of s)) used

-- What the reading call promises of a text, three tables and the place for three numbers: of the number that it answers, and of what stands in them after it.
pub record ReadsNumbers (text votes crashes reaches read : List ℕ) (number : ℕ) (votes_now crashes_now reaches_now read_now : List ℕ) : Type 0 where
  pub number_is : number ≡ number_of (read_answer largest longest text votes crashes reaches)
  pub votes_read : votes_now ≡ votes_after largest longest text votes crashes reaches
  pub crashes_read : crashes_now ≡ crashes_after largest longest text votes crashes reaches
  pub reaches_read : reaches_now ≡ reaches_after largest longest text votes crashes reaches
  pub read_given : read_now ≡ read_numbers (read_answer largest longest text votes crashes reaches) read

-- A call of the writer that is refused by the question with this number.
pub record RefusedWriting (s : Schedule) (text : List ℕ) (number : ℕ) (text_now : List ℕ) : Type 0 where
  pub question : Question
  pub its_number : question_number question ≡ number
  pub refused : WritesSchedule s text (Err question) text_now

-- A call of the reader that is refused by the question with this number, and this line.
pub record RefusedReading (text votes crashes reaches : List ℕ) (number line : ℕ) (votes_now crashes_now reaches_now : List ℕ) : Type 0 where
  pub question : Question
  pub its_number : question_number question ≡ number
  pub refused : Reads text votes crashes reaches (Err (record { question = question; back = line })) votes_now crashes_now reaches_now

-- What the numbers tell a caller: 0 that the text was written, or read, and any other number that the call was refused by the question with it.
-- So a call on numbers is a call of the writer or of the reader with that answer, and what `RoundTrips` of the crate `writer` says of those it
-- says of these. Proved in proofs/Told.antt: `told : Told`.
pub record Told : Type 0 where
  pub was_written : (s : Schedule) (text : List ℕ) (used : ℕ) (text_now : List ℕ) (used_now : ℕ)
      → WritesNumbers s text used 0 text_now used_now → WritesSchedule s text (Ok used_now) text_now
  pub not_written : (s : Schedule) (text : List ℕ) (used number : ℕ) (text_now : List ℕ) (used_now : ℕ) → (number ≡ 0 → ⊥)
      → WritesNumbers s text used number text_now used_now → RefusedWriting s text number text_now
  pub was_read : (text votes crashes reaches lent votes_now crashes_now reaches_now read_now : List ℕ)
      → ReadsNumbers text votes crashes reaches lent 0 votes_now crashes_now reaches_now read_now
      → Reads text votes crashes reaches (Ok (record { n = get_or read_now 0 0; t = get_or read_now 1 0 })) votes_now crashes_now reaches_now
  pub not_read : (text votes crashes reaches lent : List ℕ) (number : ℕ) (votes_now crashes_now reaches_now read_now : List ℕ) → (number ≡ 0 → ⊥)
      → ReadsNumbers text votes crashes reaches lent number votes_now crashes_now reaches_now read_now
      → RefusedReading text votes crashes reaches number (get_or read_now 2 0) votes_now crashes_now reaches_now
