-- The questions before work by name: their numbers, and what a call that answers a value or a question has answered.
use Rattle.std.specs.Prelude.{ℕ, Ok, Err, Result}
use Rattle.laws.specs.Answer.{Answer, accepted, refused}
use Rattle.laws.specs.declared.question.Question.{Question}
use Rattle.laws.specs.declared.question.Question.TheVariants.{Size, Crashable, Tables, Vote, CrashRound, Reach, Crashes, TextLength, LineForm, OwnNumber, State, Stopped, RowLength, Code, OwnCode, ToldEarly, ToldBoth, Room}
use Rattle.laws.specs.declared.question.Refused.{Refused}

-- "The first "no" gives its number.", with the questions in document 01's words; 18 is document 02's (K2).
-- "n from 4 to 32?", 64 with K11; "t from 3 to n − 1?"; "Each of the three input and two answer tables n long?"; "vote 0 or 1?"; "crash round at most t + 1?";
-- "reach as ruled above?"; "f at most t?"; "At most 2,048 bytes?", 8,192 with K11; "of its form?"; "own number from 1 to n?"; "state in range?"; "not stopped?";
-- "row n long?"; "every code 0 to 4?"; "own place equal to what it says now?"; "no code 3 or 4 in rounds 1 and 2?"; "not both 3 and 4?";
-- "buffer long enough for the whole text?"
abbrev pub question_number : Question → ℕ
question_number Size = 1
question_number Crashable = 2
question_number Tables = 3
question_number Vote = 4
question_number CrashRound = 5
question_number Reach = 6
question_number Crashes = 7
question_number TextLength = 8
question_number LineForm = 9
question_number OwnNumber = 10
question_number State = 11
question_number Stopped = 12
question_number RowLength = 13
question_number Code = 14
question_number OwnCode = 15
question_number ToldEarly = 16
question_number ToldBoth = 17
question_number Room = 18

-- what the questions of a call come to: 0 where each is answered by yes, else the number of the first whose answer is no
abbrev pub comes_to : {A : Type 0} → Result A Question → ℕ
comes_to (Ok value) = 0
comes_to (Err question) = question_number question

-- what a call answers: its value, or the number of a refusal
abbrev pub answer_is : {A : Type 0} → Result A Question → Answer A (Unit {0})
answer_is (Ok value) = accepted value
answer_is (Err question) = refused (question_number question) tt

-- the same of a refusal that gives something back
abbrev pub answer_with_is : {A B : Type 0} → Result A (Refused B) → Answer A B
answer_with_is (Ok value) = accepted value
answer_with_is (Err refusal) = refused (question_number refusal.question) refusal.back
