-- All questions, in the order in which the documents number them: document 01 has 1 to 17, document 02 (K2) has 18.
-- Proved in proofs/Numbered.antt: `numbered : Numbered`.
use Rattle.std.specs.Prelude.{◌≡◌, List, [], ◌∷◌, map}
use Rattle.laws.specs.Question.{question_number}
use Rattle.laws.specs.declared.question.Question.{Question}
use Rattle.laws.specs.declared.question.Question.TheVariants.{Size, Crashable, Tables, Vote, CrashRound, Reach, Crashes, TextLength, LineForm, OwnNumber, State, Stopped, RowLength, Code, OwnCode, ToldEarly, ToldBoth, Room}

-- "n from 4 to 32? 1", and so on to "buffer long enough for the whole text? 18"
abbrev pub questions : List Question
questions = Size ∷ Crashable ∷ Tables ∷ Vote ∷ CrashRound ∷ Reach ∷ Crashes ∷ TextLength ∷ LineForm ∷ OwnNumber ∷ State ∷ Stopped ∷ RowLength ∷ Code ∷ OwnCode ∷ ToldEarly ∷ ToldBoth ∷ Room ∷ []

pub record Numbered : Type 0 where
  pub numbers : map question_number questions ≡ 1 ∷ 2 ∷ 3 ∷ 4 ∷ 5 ∷ 6 ∷ 7 ∷ 8 ∷ 9 ∷ 10 ∷ 11 ∷ 12 ∷ 13 ∷ 14 ∷ 15 ∷ 16 ∷ 17 ∷ 18 ∷ []
