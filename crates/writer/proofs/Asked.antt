-- What `write` answers, question by question: a table question that is not passed gives its number; then a buffer that is too short gives 18; and what is
-- written into one that is long enough is the text, with what stood behind it. Assumes nothing.
use mathlib.Core.Path.{◌≡◌, sym, ap, ◌∙◌}
use mathlib.Core.List.{List}
use mathlib.Core.Bool.{true}
use Prim.Native.Nat.{ℕ, ◌≤◌, ◌<◌}
use native.Mathlib.Omega.{arith}
use borrow.Author.Tests.{eq-eqb, le-leb, lt-leb, leb-true}
use lib.ListN.{length}
use Rattle.std.specs.Prelude.{Ok, Err}
use Rattle.laws.specs.Answer.{ask, and_then, accepted}
use Rattle.laws.specs.Question.{question_number}
use Rattle.laws.specs.declared.question.Question.{Question}
use Rattle.laws.proofs.Answer.{passed, and_then_went_on, answer_accepted, place_given, place_kept}
use Rattle.laws.proofs.Refusals.{not_zero, is_refused}
use Rattle.sets.specs.Largest.{largest}
use Rattle.schedule.specs.Schedule.{Schedule}
use Rattle.schedule.specs.Questions.{question}
use Rattle.text.specs.Written.{text_of}
use Rattle.buffer.specs.Buffer.{Writes}
use Rattle.buffer.proofs.Written.{written_front}
use Rattle.writer.specs.Answers.{write_question, write_answer, WritesSchedule}

module _ (limit : ℕ) (s : Schedule) (buffer : List ℕ) where
  module _ (asked : question s limit true ≡ 0) where
    pub too_short : length buffer < length (text_of s) → write_question limit s buffer ≡ 18
    unfolding write_question and_then ask
    too_short h = rw (eq-eqb (question s limit true) 0 asked, lt-leb (length (text_of s)) (length buffer) h)

    pub long_enough : length (text_of s) ≤ length buffer → write_question limit s buffer ≡ 0
    unfolding write_question and_then ask
    long_enough h = rw (eq-eqb (question s limit true) 0 asked, le-leb (length (text_of s)) (length buffer) h)

  -- a call whose questions are all passed
  pub questions_passed : write_question limit s buffer ≡ 0 → (question s limit true ≡ 0) × (length (text_of s) ≤ length buffer)
  unfolding write_question
  questions_passed e =
      let p = and_then_went_on (question s limit true) _ 0 (λ z. z) e in
      (p.0, leb-true (length (text_of s)) (length buffer) (passed _ 18 0 (omega arith) p.1).0)

-- A call that refuses, and one that writes.
module _ (s : Schedule) (buffer : List ℕ) where
  pub refuses : (q : Question) → question_number q ≡ write_question largest s buffer → WritesSchedule s buffer (Err q) buffer
  unfolding write_answer
  refuses q e = record {
    answered = is_refused q (write_question largest s buffer) (length (text_of s)) tt e;
    text_written = sym (place_kept (write_question largest s buffer) _ buffer (λ z. not_zero q (e ∙ z)));
  }

  pub writes : {next : ℕ} {after : List ℕ} → question s largest true ≡ 0 → length (text_of s) ≤ length buffer → Writes buffer 0 after next (text_of s)
      → WritesSchedule s buffer (Ok next) after
  unfolding write_answer
  writes {next} asked fits w =
      let z = long_enough largest s buffer asked fits in
      let front = written_front buffer (text_of s) fits in
      record {
        answered = ap accepted (w.place ∙ front.place) ∙ sym (answer_accepted (write_question largest s buffer) (length (text_of s)) tt z);
        text_written = w.bytes ∙ front.bytes ∙ sym (place_given (write_question largest s buffer) _ buffer z);
      }
