use Rattle.std.proofs.Common.{◌≡◌, ◌+◌, refl}
use denote.Enum.Declared.{tag_of}
use Rattle.laws.specs.Question.{question_number}
use Rattle.laws.specs.contracts.question.Question.{the_type}
use Rattle.laws.specs.declared.question.Question.{Question}
use Rattle.laws.specs.declared.question.Question.TheVariants.{Size, Crashable, Tables, Vote, CrashRound, Reach, Crashes, TextLength, LineForm, OwnNumber, State, Stopped, RowLength, Code, OwnCode, ToldEarly, ToldBoth, Room}
use Rattle.laws.proofs.question.U8FromQuestion.from.Goals as goal

-- the number in the enum is the one of the definition
numbered : (q : Question) → tag_of the_type q + 1 ≡ question_number q
numbered Size = refl
numbered Crashable = refl
numbered Tables = refl
numbered Vote = refl
numbered CrashRound = refl
numbered Reach = refl
numbered Crashes = refl
numbered TextLength = refl
numbered LineForm = refl
numbered OwnNumber = refl
numbered State = refl
numbered Stopped = refl
numbered RowLength = refl
numbered Code = refl
numbered OwnCode = refl
numbered ToldEarly = refl
numbered ToldBoth = refl
numbered Room = refl

pub returns : goal.returns
returns c = numbered c.args.question
