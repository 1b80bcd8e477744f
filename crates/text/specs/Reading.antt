-- Reading a schedule text: what is read, and the questions before it with their lines.
use Rattle.std.specs.Prelude.{ℕ, ◌+◌, List, Bool, true, false, length, leb, eqb}
use Rattle.laws.specs.Below.{tabulate}
use Rattle.laws.specs.Answer.{ask, Answer, accepted, answer, and_next, next_each}
use Rattle.lines.specs.Lines.{after_lines}
use Rattle.fields.specs.Found.{Found, found, wrong}
use Rattle.fields.specs.Fields.{starts_with}
use Rattle.member.specs.Opening.{size_questions}
use Rattle.schedule.specs.Schedule.{Schedule, schedule_of, crashes_in}
use Rattle.schedule.specs.Questions.{process_question}
use Rattle.text.specs.declared.Sizes.{Sizes}
use Rattle.text.specs.declared.Entry.{Entry}
use Rattle.text.specs.Forms.{sizes_heading, processes_heading, sizes_at, entry_at}

-- "a text may have 8,192 bytes"; where document 01 says 2,048, it is this number
abbrev pub longest : ℕ
longest = 8192

-- whether something was found
abbrev pub is_found : {A : Type 0} → Found A → Bool
is_found (found value rest) = true
is_found wrong = false

-- the value that was found, or x
abbrev pub value_or : {A : Type 0} → A → Found A → A
value_or x (found value rest) = value
value_or x wrong = x

-- the questions about line k, which come to q: the number of the first whose answer is no is given with the line's
unfoldable pub on_line : ℕ → ℕ → Answer (Unit {0}) ℕ
on_line k q = answer q tt k

module _ (text : List ℕ) where
  -- What is read: n and t on line 2, and the entry of the process at place i on line i + 4. Where a line is not of its form, zeros stand here; the
  -- questions then refuse the text.
  abbrev pub sizes_in : Sizes
  sizes_in = value_or (record { n = 0; t = 0 }) (sizes_at (after_lines 1 text))

  abbrev pub entry_in : ℕ → Entry
  entry_in i = value_or (record { vote = 0; crash = 0; reach = 0 }) (entry_at sizes_in.n i (after_lines (i + 3) text))

  unfoldable pub schedule_in : Schedule
  schedule_in =
      schedule_of sizes_in.n sizes_in.t
      (tabulate sizes_in.n (λ i. (entry_in i).vote))
      (tabulate sizes_in.n (λ i. (entry_in i).crash))
      (tabulate sizes_in.n (λ i. (entry_in i).reach))

  -- "on a process's line then 4, 5, 6": of the process at place i
  unfoldable pub entry_questions : ℕ → Answer (Unit {0}) ℕ
  entry_questions i = on_line (i + 4) (ask (is_found (entry_at sizes_in.n i (after_lines (i + 3) text))) 9 (process_question schedule_in i))

  -- The questions in document 01's order, each with its line. `limit` is the largest n that is accepted, `most` how many bytes a text may have.

  -- "At most 2,048 bytes? 8, line 0. Then line by line: of its form? 9; on line 2 then 1, 2", with `most` for 2,048: those of lines 1 to 3, and the one before them
  unfoldable pub head_questions : ℕ → ℕ → Answer (Unit {0}) ℕ
  head_questions limit most =
      and_next (on_line 0 (ask (leb (length text) most) 8 0))
      (and_next (on_line 1 (ask (starts_with sizes_heading text) 9 0))
      (and_next (on_line 2 (ask (is_found (sizes_at (after_lines 1 text))) 9 (size_questions limit sizes_in.n sizes_in.t 0)))
      (on_line 3 (ask (starts_with processes_heading (after_lines 2 text)) 9 0))))

  -- "Nothing after line n + 3? 9, line n + 4. Then 7, line n + 3.": of n, t and the crash rounds that were read
  unfoldable pub tail_questions : ℕ → ℕ → List ℕ → Answer (Unit {0}) ℕ
  tail_questions n t crashes =
      and_next (on_line (n + 4) (ask (eqb (length (after_lines (n + 3) text)) 0) 9 0))
      (on_line (n + 3) (ask (leb (crashes_in n crashes) t) 7 0))

  -- those after line 3: of the processes' lines in order, and after the last of them
  unfoldable pub rest_questions : Answer (Unit {0}) ℕ
  rest_questions = and_next (next_each sizes_in.n entry_questions) (tail_questions sizes_in.n sizes_in.t schedule_in.crashes)

  unfoldable pub text_questions : ℕ → ℕ → Answer (Unit {0}) ℕ
  text_questions limit most = and_next (head_questions limit most) rest_questions

  -- the schedule of an accepted text, or the number and the line of the first question whose answer is no
  unfoldable pub text_answer : ℕ → ℕ → Answer Schedule ℕ
  text_answer limit most = and_next (text_questions limit most) (accepted schedule_in)
