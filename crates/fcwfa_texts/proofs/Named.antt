-- Each question before a call of the writer or the reader is one by name: what the questions come to is 0 or a question's number. Assumes nothing.
use mathlib.Core.Path.{◌≡◌, refl, sym, ◌∙◌}
use mathlib.Core.Logic.{inl, inr, ◌≢◌}
use mathlib.Core.Bool.{Bool, true, false}
use mathlib.Core.List.{List}
use Prim.Native.Nat.{ℕ, zero, suc}
use Rattle.std.specs.Prelude.{cond}
use lib.Dec.{eqb}
use Rattle.laws.specs.Below.{fold}
use Rattle.laws.specs.Answer.{ask, and_then, ask_each, Answer, accepted, refused, and_next, next_each}
use Rattle.laws.specs.Question.{question_number}
use Rattle.laws.specs.declared.question.Question.{Question}
use Rattle.laws.specs.declared.question.Question.TheVariants.{Size, Crashable, Tables, Vote, CrashRound, Reach, Crashes, TextLength, LineForm, Room}
use Rattle.laws.proofs.Answer.{refused_is, not_accepted, and_next_either, next_each_some}
use Rattle.schedule.specs.Schedule.{Schedule}
use Rattle.schedule.specs.Questions.{entry_question, process_question, question}
use Rattle.text.specs.Reading.{on_line, entry_questions, head_questions, tail_questions, rest_questions, text_questions}
use Rattle.reader.specs.Answers.{read_questions, read_answer}
use Rattle.writer.specs.Answers.{write_question}

-- a question with this number
pub record Numbered (k : ℕ) : Type 0 where
  pub question : Question
  pub its_number : question_number question ≡ k

-- what a row of questions comes to is 0, or a question's number
abbrev pub Named : ℕ → Type 0
Named k = k ≢ 0 → Numbered k

none : Named 0
none h = absurd (h refl)

either : (b : Bool) (x y : ℕ) → Named x → Named y → Named (cond b x y)
either true x y hx hy = hx
either false x y hx hy = hy

asked : (b : Bool) (q : Question) (others : ℕ) → Named others → Named (ask b (question_number q) others)
unfolding ask
asked b q others h = either b others (question_number q) h (λ _. record { question = q; its_number = refl })

both : (k others : ℕ) → Named k → Named others → Named (and_then k others)
unfolding and_then
both k others hk h = either (eqb k 0) others k h hk

each : (n : ℕ) (q : ℕ → ℕ) → ((i : ℕ) → Named (q i)) → Named (ask_each n q)
unfolding ask_each fold
each zero q h = none
each (suc n) q h = both (ask_each n q) (q n) (each n q h) (h n)

process_named : (s : Schedule) (i : ℕ) → Named (process_question s i)
unfolding entry_question
process_named s i = asked _ Vote _ (asked _ CrashRound _ (asked _ Reach _ none))

question_named : (s : Schedule) (limit : ℕ) (answers : Bool) → Named (question s limit answers)
unfolding question
question_named s limit answers =
    asked _ Size _ (asked _ Crashable _ (asked _ Tables _ (both _ _ (each s.n (process_question s) (process_named s)) (asked _ Crashes _ none))))

pub write_named : (limit : ℕ) (s : Schedule) (text : List ℕ) → Named (write_question limit s text)
unfolding write_question
write_named limit s text = both _ _ (question_named s limit true) (asked _ Room _ none)

-- each refusal of an answer has a question's number
abbrev pub AllNamed : {A : Type 0} → Answer A ℕ → Type 0
AllNamed a = (number k : ℕ) → a ≡ refused number k → Numbered number

on_line_named : (k q : ℕ) → Named q → AllNamed (on_line k q)
unfolding on_line
on_line_named k q h number back e =
    let r = refused_is q tt k (sym e) in
    let named = h r.1 in
    record { question = named.question; its_number = named.its_number ∙ sym r.0 }

next_named : {A : Type 0} {p : Answer (Unit {0}) ℕ} {others : Answer A ℕ} → AllNamed p → AllNamed others → AllNamed (and_next p others)
next_named {p = p} {others = others} a b number k e = elim (and_next_either p others number k e) [ inl h ↦ a number k h | inr h ↦ b number k h ]

each_named : (n : ℕ) (q : ℕ → Answer (Unit {0}) ℕ) → ((i : ℕ) → AllNamed (q i)) → AllNamed (next_each n q)
each_named n q h number k e = let some = next_each_some n q number k e in h some.0 number k some.2

accepted_named : {A : Type 0} (value : A) → AllNamed (accepted value)
accepted_named value number k e = absurd (not_accepted (sym e))

module _ (text : List ℕ) where
  head_named : (limit most : ℕ) → AllNamed (head_questions text limit most)
  unfolding head_questions
  head_named limit most =
      next_named (on_line_named 0 _ (asked _ TextLength _ none))
      (next_named (on_line_named 1 _ (asked _ LineForm _ none))
      (next_named (on_line_named 2 _ (asked _ LineForm _ (asked _ Size _ (asked _ Crashable _ none))))
      (on_line_named 3 _ (asked _ LineForm _ none))))

  entry_named : (i : ℕ) → AllNamed (entry_questions text i)
  unfolding entry_questions
  entry_named i = on_line_named _ _ (asked _ LineForm _ (process_named _ i))

  rest_named : AllNamed (rest_questions text)
  unfolding rest_questions tail_questions
  rest_named =
      next_named (each_named _ _ entry_named)
      (next_named (on_line_named _ _ (asked _ LineForm _ none)) (on_line_named _ _ (asked _ Crashes _ none)))

  pub read_named : (limit most : ℕ) (votes crashes reaches : List ℕ) → AllNamed (read_answer limit most text votes crashes reaches)
  unfolding read_answer read_questions text_questions
  read_named limit most votes crashes reaches =
      next_named (next_named (on_line_named 0 _ (asked _ Tables _ none)) (next_named (head_named limit most) rest_named)) (accepted_named _)
