-- The whole reading: the questions of the text are those of its head and those of the rest, and the tables are filled with the schedule of the text
-- exactly where all of them are passed. Assumes nothing.
use mathlib.Core.Path.{◌≡◌, sym, ap, ap₂, ◌∙◌}
use mathlib.Core.Logic.{inl, inr}
use mathlib.Core.List.{List, ◌++◌}
use mathlib.Core.Bool.{true, false}
use Prim.Native.Nat.{ℕ, ◌≤◌}
use native.Mathlib.Omega.{arith}
use lib.ListN.{length, take, drop}
use Rattle.std.specs.Prelude.{Ok, Err}
use Rattle.sets.specs.Largest.{largest}
use Rattle.laws.specs.Below.{tabulate}
use Rattle.laws.specs.Answer.{ask, Answer, accepted, refused, answer, and_next, next_each}
use Rattle.laws.proofs.Answer.{passed, value_or, not_accepted, and_next_passes, and_next_refused, and_next_accepted, and_next_either}
use Rattle.laws.proofs.Test.{within_high}
use Rattle.laws.proofs.Filled.{filled_take}
use Rattle.laws.proofs.Lists.{length_tabulate}
use Rattle.laws.specs.Question.{question_number}
use Rattle.laws.specs.declared.question.Refused.{Refused}
use Rattle.schedule.specs.Questions.{tables_of}
use Rattle.text.specs.declared.Sizes.{Sizes}
use Rattle.text.specs.Reading.{longest, on_line, sizes_in, entry_in, schedule_in, entry_questions, text_questions, tail_questions, rest_questions, head_questions}
use Rattle.text.proofs.Accepted.{line_passed}
use Rattle.reader.specs.Answers.{given_or, filled, read_questions, read_answer, table_after, Reads}
use Rattle.reader.specs.Parts.{Table, EntriesRead, Fills}
use Rattle.reader.specs.declared.tables.Entries.{Entries}

-- The questions of the lines, and what was read there, by the sizes of the text.
module _ (text : List ℕ) (s : Sizes) (same : sizes_in text ≡ s) where
  -- the questions of the lines refuse
  pub lines_refuse : {number k : ℕ} → next_each s.n (entry_questions text) ≡ refused number k → rest_questions text ≡ refused number k
  unfolding rest_questions
  lines_refuse {number} {k} e = and_next_refused _ _ number k (ap (λ (x : Sizes). next_each x.n (entry_questions text)) same ∙ e)

  module _ (small : s.n ≤ largest) where
    -- the first n entries of a table that was read
    front_read : {own : List ℕ} (f : ℕ → ℕ) → Table s.n own f → take s.n own ≡ tabulate (sizes_in text).n f
    front_read f h = filled_take small h ∙ ap (λ (x : Sizes). tabulate x.n f) (sym same)

    -- the lines are passed, and what is asked after them is the answer
    pub lines_pass : next_each s.n (entry_questions text) ≡ accepted tt → {own : List ℕ} → Table s.n own (λ i. (entry_in text i).crash)
        → tail_questions text s.n s.t (take s.n own) ≡ rest_questions text
    unfolding rest_questions schedule_in
    lines_pass e h =
        ap (tail_questions text s.n s.t) (front_read (λ i. (entry_in text i).crash) h)
        ∙ sym (ap (λ (x : Sizes). tail_questions text x.n x.t (schedule_in text).crashes) same)
        ∙ sym (and_next_passes _ _ (ap (λ (x : Sizes). next_each x.n (entry_questions text)) same ∙ e))

    -- a lent table that was filled with the first n entries of one that was read
    pub filled_so : {own after : List ℕ} (f : ℕ → ℕ) (lent : List ℕ) → Table s.n own f → after ≡ take s.n own ++ drop s.n lent → after ≡ filled (tabulate (sizes_in text).n f) lent
    filled_so f lent h e =
        let n : s.n ≡ length (tabulate (sizes_in text).n f) = sym (length_tabulate (sizes_in text).n f ∙ ap (λ (x : Sizes). x.n) same) in
        e ∙ ap₂ (λ (entries : List ℕ) (k : ℕ). entries ++ drop k lent) (front_read f h) n

-- The head's questions, with the sizes as their answer.
module _ (text : List ℕ) (limit most : ℕ) where
  abbrev head_answer : Answer Sizes ℕ
  head_answer = and_next (head_questions text limit most) (accepted (sizes_in text))

  head_refuses : {number k : ℕ} → head_answer ≡ refused number k → head_questions text limit most ≡ refused number k
  head_refuses {number} {k} e =
      elim (and_next_either (head_questions text limit most) (accepted (sizes_in text)) number k e) [ inl h ↦ h | inr h ↦ absurd (not_accepted (sym h)) ]

  head_passes : {s : Sizes} → head_answer ≡ accepted s → (head_questions text limit most ≡ accepted tt) × ◌≡◌ {A = Answer Sizes ℕ} (accepted (sizes_in text)) (accepted s)
  head_passes {s} e = and_next_accepted (head_questions text limit most) (accepted (sizes_in text)) s e

  -- question 1 is one of them
  head_size : head_questions text limit most ≡ accepted tt → (sizes_in text).n ≤ limit
  unfolding head_questions
  head_size e =
      let second = and_next_accepted _ _ tt (and_next_accepted _ _ tt (and_next_accepted _ _ tt e).1).1 in
      let sizes = passed _ _ _ (omega arith) (line_passed _ _ second.0) in
      within_high _ _ _ (passed _ _ _ (omega arith) sizes.1).0

  module _ (votes crashes reaches : List ℕ) where
    abbrev pub asked : Answer (Unit {0}) ℕ
    asked = read_questions limit most text votes crashes reaches

    pub tables_refuse : tables_of limit (length votes) (length crashes) (length reaches) ≡ false → asked ≡ refused 3 0
    unfolding read_questions on_line answer ask and_next
    tables_refuse h = rw h

    module _ (h : tables_of limit (length votes) (length crashes) (length reaches) ≡ true) where
      -- the tables are of their size, so only the text is asked about
      pub asked_text : asked ≡ text_questions text limit most
      unfolding read_questions on_line answer ask and_next
      asked_text = rw h

      parts : asked ≡ and_next (head_questions text limit most) (rest_questions text)
      unfolding text_questions
      parts = asked_text

      pub head_refused : {number k : ℕ} → refused number k ≡ head_answer → asked ≡ refused number k
      head_refused {number} {k} e = parts ∙ and_next_refused _ _ number k (head_refuses (sym e))

      pub head_passed : {s : Sizes} → accepted s ≡ head_answer → (asked ≡ rest_questions text) × (sizes_in text ≡ s) × (s.n ≤ limit)
      head_passed {s} e =
          let p = head_passes (sym e) in
          let same : sizes_in text ≡ s = ap (value_or s) p.1 in
          let small = head_size p.0 in
          let n : (sizes_in text).n ≡ s.n = ap (λ (x : Sizes). x.n) same in
          (parts ∙ and_next_passes _ _ p.0, same, omega arith)

    pub read_accepted : asked ≡ accepted tt → accepted (sizes_in text) ≡ read_answer limit most text votes crashes reaches
    unfolding read_answer
    read_accepted e = sym (and_next_passes _ _ e)

-- A call that refuses, and one that reads.
module _ (text votes crashes reaches : List ℕ) where
  pub refuses : (refusal : Refused ℕ) → asked text largest longest votes crashes reaches ≡ refused (question_number refusal.question) refusal.back
      → Reads text votes crashes reaches (Err refusal) votes crashes reaches
  unfolding read_answer table_after
  refuses refusal e =
      let kept : (read lent : List ℕ) → lent ≡ given_or (asked text largest longest votes crashes reaches) (filled read lent) lent =
      λ read lent. sym (ap (λ (q : Answer (Unit {0}) ℕ). given_or q (filled read lent) lent) e) in
      record { answered = sym (and_next_refused _ _ _ _ e); votes_read = kept _ _; crashes_read = kept _ _; reaches_read = kept _ _ }

  module _ (s : Sizes) (same : sizes_in text ≡ s) (small : s.n ≤ largest) (e : asked text largest longest votes crashes reaches ≡ accepted tt) where
    given : {own after : List ℕ} (f : ℕ → ℕ) (lent : List ℕ) → Table s.n own f → after ≡ take s.n own ++ drop s.n lent
        → after ≡ table_after largest longest text votes crashes reaches (tabulate (sizes_in text).n f) lent
    unfolding table_after
    given f lent h filling =
        filled_so text s same small f lent h filling
        ∙ sym (ap (λ (q : Answer (Unit {0}) ℕ). given_or q (filled (tabulate (sizes_in text).n f) lent) lent) e)

    pub reads : {entries : Entries} → EntriesRead text s.n entries → {votes_now crashes_now reaches_now : List ℕ}
        → Fills s.n entries votes crashes reaches votes_now crashes_now reaches_now → Reads text votes crashes reaches (Ok s) votes_now crashes_now reaches_now
    unfolding read_answer schedule_in
    reads read fills = record {
      answered = ap accepted (sym same) ∙ read_accepted text largest longest votes crashes reaches e;
      votes_read = given (λ i. (entry_in text i).vote) votes read.0 fills.votes_filled;
      crashes_read = given (λ i. (entry_in text i).crash) crashes read.1 fills.crashes_filled;
      reaches_read = given (λ i. (entry_in text i).reach) reaches read.2 fills.reaches_filled;
    }
