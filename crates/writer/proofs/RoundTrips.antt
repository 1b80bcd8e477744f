-- Reading undoes writing, and writing undoes reading: what was written is the text of an accepted schedule, which is read as that schedule; and an accepted
-- text is the text of the schedule that it is read as, which is accepted. Assumes nothing.
use mathlib.Core.Path.{◌≡◌, sym, ap, ◌∙◌, subst}
use mathlib.Core.List.{List, ◌++◌}
use mathlib.Core.Bool.{true}
use Prim.Native.Nat.{ℕ, ◌≤◌}
use native.Mathlib.Omega.{arith}
use lib.ListN.{length, take, drop}
use lib.Seq.{take-append_seam}
use Rattle.laws.specs.Answer.{accepted}
use Rattle.laws.proofs.Answer.{accepted_is, answer_accepted, place_given}
use Rattle.sets.specs.Largest.{largest}
use Rattle.schedule.specs.Schedule.{Schedule}
use Rattle.schedule.specs.Questions.{tables_of, question}
use Rattle.schedule.proofs.Accepted.{question_accepted}
use Rattle.text.specs.Written.{text_of}
use Rattle.text.specs.Reading.{longest, schedule_in, text_answer}
use Rattle.text.specs.Facts.{TextPromises}
use Rattle.text.proofs.Theorem.{accepted_texts, all_read_back}
use Rattle.reader.specs.Answers.{read_answer}
use Rattle.reader.proofs.Texts.{text_accepted, schedule_read_lem, its_schedule, sizes_answered, table_filled}
use Rattle.writer.specs.Answers.{write_question, write_answer}
use Rattle.writer.specs.RoundTrips.{WriterCall, ReaderCall, Wrote, ReadSizes, schedule_read, Restores, Makes, RoundTrips}
use Rattle.writer.proofs.Asked.{questions_passed, long_enough}

-- A call that wrote: its schedule is accepted, there was room, and the buffer holds the text with what stood behind it.
module _ (w : WriterCall) where
  abbrev s : Schedule
  s = w.schedule

  module _ (used : ℕ) (wrote : Wrote w used) where
    wrote_all : (write_question largest s w.buffer ≡ 0) × (used ≡ length (text_of s))
    unfolding write_answer
    wrote_all = accepted_is _ _ tt (sym wrote ∙ w.promised.answered)

    front : take used w.buffer_now ≡ text_of s
    front =
        ap (λ (k : ℕ). take k w.buffer_now) wrote_all.1
        ∙ ap (take (length (text_of s))) (w.promised.text_written ∙ place_given _ _ w.buffer wrote_all.0)
        ∙ take-append_seam (text_of s) (drop (length (text_of s)) w.buffer)

    asked : question s largest true ≡ 0
    asked = (questions_passed largest s w.buffer wrote_all.0).0

  -- and where its schedule is accepted and there is room, it wrote
  makes : question s largest true ≡ 0 → length (text_of s) ≤ length w.buffer → Makes w (text_of s)
  unfolding write_answer
  makes passed fits =
      let z = long_enough largest s w.buffer passed fits in
      record {
        used = w.promised.answered ∙ answer_accepted _ (length (text_of s)) tt z;
        bytes = w.promised.text_written ∙ place_given _ _ w.buffer z;
      }

restored : (w : WriterCall) (used : ℕ) → Wrote w used → (r : ReaderCall) → r.text ≡ take used w.buffer_now
    → tables_of largest (length r.votes) (length r.crashes) (length r.reaches) ≡ true → Restores w.schedule r
restored w used wrote r e sized =
    let s = w.schedule in
    let passed = asked w used wrote in
    let ok = question_accepted s largest true passed in
    let back : text_answer r.text largest longest ≡ accepted s = ap (λ (x : List ℕ). text_answer x largest longest) (e ∙ front w used wrote) ∙ all_read_back.read_back s passed in
    let sizes = sizes_answered largest longest r.text r.votes r.crashes r.reaches sized back in
    let table : (f : Schedule → List ℕ) (lent : List ℕ) → length (f s) ≡ s.n → _ =
    λ f lent long. table_filled largest longest r.text r.votes r.crashes r.reaches sized back f lent ∙ ap (λ (k : ℕ). f s ++ drop k lent) long in
    let h = r.promised in
    record {
      sizes = h.answered ∙ sizes;
      votes = h.votes_read ∙ table (λ x. x.votes) r.votes ok.votes_long;
      crashes = h.crashes_read ∙ table (λ x. x.crashes) r.crashes ok.crashes_long;
      reaches = h.reaches_read ∙ table (λ x. x.reaches) r.reaches ok.reaches_long;
      schedule =
          schedule_read_lem largest longest r.text r.votes r.crashes r.reaches (sym sizes) _ _ _ h.votes_read h.crashes_read h.reaches_read
          ∙ its_schedule largest longest r.text r.votes r.crashes r.reaches sized back;
    }

-- A text that was read is that of the schedule in the tables, which is accepted.
module _ (r : ReaderCall) (n t : ℕ) (read : ReadSizes r n t) where
  answered : accepted (record { n = n; t = t }) ≡ read_answer largest longest r.text r.votes r.crashes r.reaches
  answered = sym read ∙ r.promised.answered

  its_schedule_in : schedule_read r n t ≡ schedule_in r.text
  its_schedule_in = schedule_read_lem largest longest r.text r.votes r.crashes r.reaches answered _ _ _ r.promised.votes_read r.promised.crashes_read r.promised.reaches_read

  read_as : text_answer r.text largest longest ≡ accepted (schedule_read r n t)
  read_as = text_accepted largest longest r.text r.votes r.crashes r.reaches answered ∙ ap accepted (sym its_schedule_in)

  abbrev promises : TextPromises largest longest
  promises = accepted_texts largest longest (omega arith)

  its_text : r.text ≡ text_of (schedule_read r n t)
  its_text = promises.written r.text (schedule_read r n t) read_as

  its_question : question (schedule_read r n t) largest true ≡ 0
  its_question = promises.accepted_schedule r.text (schedule_read r n t) read_as

pub round_trips : RoundTrips
round_trips = record {
  restored = restored;
  remade = λ r n t read w e fits.
      let same : r.text ≡ text_of w.schedule = its_text r n t read ∙ ap text_of (sym e) in
      let long : length r.text ≡ length (text_of w.schedule) = ap length same in
      let passed = subst (λ (x : Schedule). question x largest true ≡ 0) (sym e) (its_question r n t read) in
      subst (Makes w) (sym same) (makes w passed (omega arith));
  same_text = λ a n t ha b m u hb e. its_text a n t ha ∙ ap text_of e ∙ sym (its_text b m u hb);
  room = λ w passed fits. let short = all_read_back.short w.schedule passed in makes w passed (omega arith);
}
