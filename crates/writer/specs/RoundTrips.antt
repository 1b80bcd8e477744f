-- What holds of the writer and the reader together, by what the two promise: `WritesSchedule`, and `Reads` of the crate `reader`. Proved in
-- proofs/RoundTrips.antt, and assumes nothing: `round_trips : RoundTrips`.
use Rattle.std.specs.Prelude.{ℕ, ◌≤◌, ◌≡◌, List, ◌++◌, true, length, take, drop, Result}
use Rattle.laws.specs.Answer.{accepted}
use Rattle.laws.specs.Question.{answer_is, answer_with_is}
use Rattle.laws.specs.declared.question.Question.{Question}
use Rattle.laws.specs.declared.question.Refused.{Refused}
use Rattle.sets.specs.Largest.{largest}
use Rattle.schedule.specs.Schedule.{Schedule, schedule_of}
use Rattle.schedule.specs.Questions.{tables_of, question}
use Rattle.text.specs.Written.{text_of, longest_written}
use Rattle.text.specs.declared.Sizes.{Sizes}
use Rattle.reader.specs.Answers.{Reads}
use Rattle.writer.specs.Answers.{WritesSchedule}

-- A call of the writer: the schedule of its tables and the buffer that it was lent, its answer, and the buffer after it.
pub record WriterCall : Type 0 where
  pub schedule : Schedule
  pub buffer : List ℕ
  pub answer : Result ℕ Question
  pub buffer_now : List ℕ
  pub promised : WritesSchedule schedule buffer answer buffer_now

-- A call of the reader: the text and the tables that it was lent, its answer, and the tables after it.
pub record ReaderCall : Type 0 where
  pub text : List ℕ
  pub votes : List ℕ
  pub crashes : List ℕ
  pub reaches : List ℕ
  pub answer : Result Sizes (Refused ℕ)
  pub votes_now : List ℕ
  pub crashes_now : List ℕ
  pub reaches_now : List ℕ
  pub promised : Reads text votes crashes reaches answer votes_now crashes_now reaches_now

-- it wrote a text of so many bytes
abbrev pub Wrote : WriterCall → ℕ → Type 0
Wrote w used = answer_is w.answer ≡ accepted used

-- it read these sizes
abbrev pub ReadSizes : ReaderCall → ℕ → ℕ → Type 0
ReadSizes r n t = answer_with_is r.answer ≡ accepted (record { n = n; t = t })

-- the schedule of these sizes in the tables' first n entries after it
abbrev pub schedule_read : ReaderCall → ℕ → ℕ → Schedule
schedule_read r n t = schedule_of n t (take n r.votes_now) (take n r.crashes_now) (take n r.reaches_now)

-- "Reading such a file restores n, t and the three tables' first n entries": what is answered, each table whole, with what stood behind the n entries, and
-- so the schedule in the first n entries
pub record Restores (s : Schedule) (r : ReaderCall) : Type 0 where
  pub sizes : ReadSizes r s.n s.t
  pub votes : r.votes_now ≡ s.votes ++ drop s.n r.votes
  pub crashes : r.crashes_now ≡ s.crashes ++ drop s.n r.crashes
  pub reaches : r.reaches_now ≡ s.reaches ++ drop s.n r.reaches
  pub schedule : schedule_read r s.n s.t ≡ s

-- the writer made this text: as many bytes, and these, with what stood behind them in the buffer
pub record Makes (w : WriterCall) (text : List ℕ) : Type 0 where
  pub used : Wrote w (length text)
  pub bytes : w.buffer_now ≡ text ++ drop (length text) w.buffer

pub record RoundTrips : Type 0 where
  -- what was written is read back into any tables of the reader's size
  pub restored : (w : WriterCall) (used : ℕ) → Wrote w used
      → (r : ReaderCall) → r.text ≡ take used w.buffer_now → tables_of largest (length r.votes) (length r.crashes) (length r.reaches) ≡ true
      → Restores w.schedule r
  -- "any accepted text is the one that the writer makes of its schedule", in any buffer with room for it
  pub remade : (r : ReaderCall) (n t : ℕ) → ReadSizes r n t → (w : WriterCall) → w.schedule ≡ schedule_read r n t → length r.text ≤ length w.buffer → Makes w r.text
  -- so two accepted texts with one schedule are the same bytes
  pub same_text : (a : ReaderCall) (n t : ℕ) → ReadSizes a n t → (b : ReaderCall) (m u : ℕ) → ReadSizes b m u → schedule_read a n t ≡ schedule_read b m u → a.text ≡ b.text
  -- a buffer as long as the longest text has room for that of every accepted schedule
  pub room : (w : WriterCall) → question w.schedule largest true ≡ 0 → longest_written ≤ length w.buffer → Makes w (text_of w.schedule)
