-- What is printed for a text that was read: what is wanted of its schedule, or its refusal, is the output of the text, and keeps what is promised of it.
-- Assumes nothing.
use mathlib.Core.Path.{◌≡◌, sym, ap, ◌∙◌, subst}
use mathlib.Core.List.{List, ◌++◌}
use mathlib.Core.Bool.{true}
use Prim.Native.Nat.{ℕ, ◌-◌, ◌≤◌}
use native.Mathlib.Omega.{arith}
use lib.ListN.{length, take, length-append}
use lib.Seq.{take-append_seam}
use Rattle.io.specs.Counts.{IsPrefixLen}
use Rattle.io.proofs.Counting.{prefix_len_of_le}
use Rattle.laws.specs.Answer.{accepted, refused}
use Rattle.lines.specs.Lines.{line_of}
use Rattle.sets.specs.Largest.{largest}
use Rattle.schedule.specs.Schedule.{Schedule}
use Rattle.schedule.specs.Questions.{question}
use Rattle.schedule.proofs.Accepted.{question_accepted}
use Rattle.text.specs.Reading.{longest, schedule_in, text_answer}
use Rattle.text.specs.Output.{refusal_text, printed, output_of}
use Rattle.text.proofs.Accepted as Text
use Rattle.reader.specs.Answers.{read_answer}
use Rattle.reader.proofs.Texts.{text_accepted, its_n}
use Rattle.output.specs.declared.Output.{Output}
use Rattle.output.specs.declared.Wanted.{Wanted}
use Rattle.output.specs.Answers.{zeros, output_size, output_is, shown_of, Prints, OutputKeepsPromises}

-- n and t are answered, and the schedule s stands in the first n entries of the tables
module _ (text votes crashes reaches : List ℕ) {n t : ℕ} (e : accepted (record { n = n; t = t }) ≡ read_answer largest longest text votes crashes reaches) where
  abbrev read : text_answer text largest longest ≡ accepted (schedule_in text)
  read = text_accepted largest longest text votes crashes reaches e

  question_passed : question (schedule_in text) largest true ≡ 0
  question_passed = Text.accepted_schedule text largest longest (schedule_in text) read

  pub n_small : n ≤ largest
  n_small =
      let passed = question_accepted (schedule_in text) largest true question_passed in
      let n_high : (schedule_in text).n ≤ largest = passed.n_high in
      let same : (schedule_in text).n ≡ n = its_n largest longest text votes crashes reaches e in
      omega arith

  pub read_question : (s : Schedule) → s ≡ schedule_in text → question s largest true ≡ 0
  read_question s h = subst (λ (x : Schedule). question x largest true ≡ 0) (sym h) question_passed

  pub accepted_printed : (shown : Schedule → List ℕ) (s : Schedule) → s ≡ schedule_in text → shown s ≡ output_of shown text largest longest
  unfolding output_of
  accepted_printed shown s h = ap shown h ∙ sym (ap (printed shown text) read)

-- the text is refused
pub refusal_printed : (text : List ℕ) {number k : ℕ} → text_answer text largest longest ≡ refused number k
    → (shown : Schedule → List ℕ) → refusal_text number k (line_of k text) ≡ output_of shown text largest longest
unfolding output_of
refusal_printed text e shown = sym (ap (printed shown text) e)

-- The length counts bytes at the start of the buffer.
pub counts : (written : List ℕ) {r : Output} → r ≡ output_is written → IsPrefixLen r.length r.bytes
counts written {r} e =
    let all = length-append written (zeros (output_size - length written)) in
    let count : r.length ≡ length written = ap (λ (x : Output). x.length) e in
    let long : length r.bytes ≡ length (written ++ zeros (output_size - length written)) = ap (λ (x : Output). length x.bytes) e in
    prefix_len_of_le r.length r.bytes (omega arith)

-- The promises of the bytes that are answered.
printed_promises : (wanted : Wanted) (text : List ℕ) (s : Schedule) → text_answer text largest longest ≡ accepted s → Prints wanted s (output_of (shown_of wanted) text largest longest)
printed_promises Wanted.Report text s h = Text.prints_promises text largest longest s h
printed_promises Wanted.Outcome text s h = Text.prints_outcome text largest longest s h
printed_promises Wanted.Reasons text s h = Text.prints_reasons text largest longest s h

pub keeps_promises : (wanted : Wanted) (text : List ℕ) {r : Output} → r ≡ output_is (output_of (shown_of wanted) text largest longest) → OutputKeepsPromises wanted text r
keeps_promises wanted text {r} e =
    let written = output_of (shown_of wanted) text largest longest in
    let bytes : take r.length r.bytes ≡ written = ap (λ (x : Output). take x.length x.bytes) e ∙ take-append_seam written (zeros (output_size - length written)) in
    record { kept = λ s h. subst (Prints wanted s) (sym bytes) (printed_promises wanted text s h) }
