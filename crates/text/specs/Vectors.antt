-- Texts with their whole output under FCWFA, written from documents 01 and 02 by hand, a schedule with the longest text, and the statements that
-- cover them. Proved in proofs/Vectors.antt, each by computing what the definitions give: `text_vectors : TextVectors`, `length_vectors : LengthVectors`,
-- `outcome_text_vectors : OutcomeTextVectors`, `reasons_text_vectors : ReasonsTextVectors`.
use Rattle.std.specs.Prelude.{ℕ, ◌≡◌, List, [], ◌∷◌, ◌++◌, map, true, length, replicate}
use Prim.Native.String.{String}
use Rattle.laws.specs.Quoted.{quoted}
use Rattle.lines.specs.Lines.{lf}
use Rattle.sets.specs.Largest.{largest}
use Rattle.schedule.specs.Schedule.{Schedule, schedule_of}
use Rattle.schedule.specs.Questions.{question}
use Rattle.run.specs.Protocol.{fcwfa}
use Rattle.text.specs.Written.{text_of, longest_written}
use Rattle.text.specs.Reading.{longest}
use Rattle.text.specs.Output.{report_shown, outcome_shown, reasons_shown, output_of}

-- a text, and what is printed for it
pub record Printed : Type 0 where
  pub text : String
  pub output : String

abbrev pub prints : String → String → Printed
prints text output = record { text = text; output = output }

abbrev pub vectors : List Printed
vectors =
    -- "Case D, text and whole report", with the messages of document 02: "case D 37"
    prints "n t\n4 3\nid vote crash reach\n1 1 1 0100\n2 1 0 0000\n3 1 0 0000\n4 1 0 0000\n"
    "n t f first last messages\n4 3 1 2 3 37\nid decision round\n1 - 0\n2 0 3\n3 0 3\n4 0 3\n" ∷
    -- case E, "-, -, 1@4, -": "1: 1/0110; 4: 2/0100; 2: 3/0000"; messages 9 + 2, then 6 + 1, then 3 + 0, then 3
    prints "n t\n4 3\nid vote crash reach\n1 1 1 0110\n2 1 3 0000\n3 1 0 0000\n4 1 2 0100\n"
    "n t f first last messages\n4 3 3 3 4 24\nid decision round\n1 - 0\n2 - 0\n3 1 4\n4 - 0\n" ∷
    -- process 3 alone hears the message of process 1 in round 2, and so is the first to decide, before processes with lower numbers
    prints "n t\n4 3\nid vote crash reach\n1 1 2 0010\n2 1 0 0000\n3 1 0 0000\n4 1 0 0000\n"
    "n t f first last messages\n4 3 1 3 3 37\nid decision round\n1 - 0\n2 1 3\n3 1 2\n4 1 3\n" ∷
    -- numbers of two and three digits: the last of ten processes votes 0, and each sends nine messages in each of three rounds
    prints "n t\n10 3\nid vote crash reach\n1 1 0 0000000000\n2 1 0 0000000000\n3 1 0 0000000000\n4 1 0 0000000000\n5 1 0 0000000000\n6 1 0 0000000000\n7 1 0 0000000000\n8 1 0 0000000000\n9 1 0 0000000000\n10 0 0 0000000000\n"
    "n t f first last messages\n10 3 0 1 2 270\nid decision round\n1 0 2\n2 0 2\n3 0 2\n4 0 2\n5 0 2\n6 0 2\n7 0 2\n8 0 2\n9 0 2\n10 0 2\n" ∷
    -- "An empty text prints `9 1` in the second."
    prints "" "refused line\n9 1\n\n" ∷
    -- line 1 "compared letter for letter"; line 2 would get 1
    prints "n  t\n3 3\n" "refused line\n9 1\nn  t\n" ∷
    -- "a line without LF is not of its form"
    prints "n t" "refused line\n9 1\nn t\n" ∷
    -- line 2 "without a leading zero"; line 3 would get 9
    prints "n t\n04 3\nid\n" "refused line\n9 2\n04 3\n" ∷
    -- "on line 2 then 1, 2": n = 3 with t = 9, n = 65 of at most 64, and n = 64 with t = 63, where "a missing line is refused with 9 under its line number"
    prints "n t\n3 9\nid\n" "refused line\n1 2\n3 9\n" ∷
    prints "n t\n65 64\nid\n" "refused line\n1 2\n65 64\n" ∷
    prints "n t\n64 63\nid vote crash reach\n" "refused line\n9 4\n\n" ∷
    -- t = 4 and t = 2 at n = 4; line 3 would get 9
    prints "n t\n4 4\nid\n" "refused line\n2 2\n4 4\n" ∷
    prints "n t\n4 2\nid\n" "refused line\n2 2\n4 2\n" ∷
    -- line 3 "compared letter for letter"; line 4 would get 4
    prints "n t\n4 3\nid vote crash reads\n1 2 0 0000\n" "refused line\n9 3\nid vote crash reads\n" ∷
    -- "its own number": process 2 stands on line 5
    prints "n t\n4 3\nid vote crash reach\n1 1 0 0000\n3 1 0 0000\n" "refused line\n9 5\n3 1 0 0000\n" ∷
    -- "one digit for the vote", "a reach of n letters 0 or 1"
    prints "n t\n4 3\nid vote crash reach\n1 10 0 0000\n" "refused line\n9 4\n1 10 0 0000\n" ∷
    prints "n t\n4 3\nid vote crash reach\n1 1 1 0200\n" "refused line\n9 4\n1 1 1 0200\n" ∷
    prints "n t\n4 3\nid vote crash reach\n1 1 1 01000\n" "refused line\n9 4\n1 1 1 01000\n" ∷
    -- "on a process's line then 4, 5, 6": process 2 with vote 2, crash round 5 and itself in its reach gets 4, and with less of that 5 and 6; each time line 4 is
    -- right, and line 6 would get a number that is asked before
    prints "n t\n4 3\nid vote crash reach\n1 1 0 0000\n2 2 5 0100\n3 1 0 000\n" "refused line\n4 5\n2 2 5 0100\n" ∷
    prints "n t\n4 3\nid vote crash reach\n1 1 0 0000\n2 1 5 0100\n3 2 0 0000\n" "refused line\n5 5\n2 1 5 0100\n" ∷
    prints "n t\n4 3\nid vote crash reach\n1 1 0 0000\n2 1 4 0100\n3 1 5 0000\n" "refused line\n6 5\n2 1 4 0100\n" ∷
    -- the last process's line before what stands after it
    prints "n t\n4 3\nid vote crash reach\n1 1 0 0000\n2 1 0 0000\n3 1 0 0000\n4 2 0 0000\n5\n" "refused line\n4 7\n4 2 0 0000\n" ∷
    -- "Nothing after line n + 3? 9, line n + 4. Then 7, line n + 3.": of four crashes
    prints "n t\n4 3\nid vote crash reach\n1 1 1 0000\n2 1 1 0000\n3 1 1 0000\n4 1 1 0000\n5\n" "refused line\n9 8\n5\n" ∷
    prints "n t\n4 3\nid vote crash reach\n1 1 1 0000\n2 1 1 0000\n3 1 1 0000\n4 1 1 0000\n" "refused line\n7 7\n4 1 1 0000\n" ∷
    prints "n t\n4 3\nid vote crash reach\n1 1 1 0000\n2 1 1 0000\n3 1 1 0000\n4 1 1 0000" "refused line\n9 7\n4 1 1 0000\n" ∷
    []

-- each of these texts prints its output
abbrev pub TextVectors : Type 0
TextVectors = map (λ v. output_of (report_shown fcwfa) (quoted v.text) largest longest) vectors ≡ map (λ v. quoted v.output) vectors

-- a line of names `decision round` and one of values, of cases D and E; and the same three lines of a refusal
abbrev pub outcome_vectors : List Printed
outcome_vectors =
    prints "n t\n4 3\nid vote crash reach\n1 1 1 0100\n2 1 0 0000\n3 1 0 0000\n4 1 0 0000\n" "decision round\n0 3\n" ∷
    prints "n t\n4 3\nid vote crash reach\n1 1 1 0110\n2 1 3 0000\n3 1 0 0000\n4 1 2 0100\n" "decision round\n1 4\n" ∷
    prints "n t\n3 3\n" "refused line\n1 2\n3 3\n" ∷
    []

abbrev pub OutcomeTextVectors : Type 0
OutcomeTextVectors = map (λ v. output_of (outcome_shown fcwfa) (quoted v.text) largest longest) outcome_vectors ≡ map (λ v. quoted v.output) outcome_vectors

-- a line of names `id rule number`, and the reason of each process
abbrev pub reasons_vectors : List Printed
reasons_vectors =
    -- case A: no estimate is missing in round 2, which is at most t − 1
    prints "n t\n4 3\nid vote crash reach\n1 1 0 0000\n2 1 0 0000\n3 1 0 0000\n4 1 0 0000\n"
    "id rule number\n1 quiet 0\n2 quiet 0\n3 quiet 0\n4 quiet 0\n" ∷
    -- case B: no estimate is missing there either, but the rule of zeros only comes first
    prints "n t\n4 3\nid vote crash reach\n1 0 0 0000\n2 1 0 0000\n3 1 0 0000\n4 1 0 0000\n"
    "id rule number\n1 zeros -\n2 zeros -\n3 zeros -\n4 zeros -\n" ∷
    -- case D: the three estimates of round 3, which is t
    prints "n t\n4 3\nid vote crash reach\n1 1 1 0100\n2 1 0 0000\n3 1 0 0000\n4 1 0 0000\n"
    "id rule number\n1 crashed 1\n2 round-t 3\n3 round-t 3\n4 round-t 3\n" ∷
    -- case E: process 3 hears one estimate, its own, in round 3, where two would be enough, and decides in the last round
    prints "n t\n4 3\nid vote crash reach\n1 1 1 0110\n2 1 3 0000\n3 1 0 0000\n4 1 2 0100\n"
    "id rule number\n1 crashed 1\n2 crashed 3\n3 last -\n4 crashed 2\n" ∷
    -- process 4 alone hears all four estimates in round 2, and tells process 3 of it as it crashes in round 3
    prints "n t\n4 3\nid vote crash reach\n1 1 2 0101\n2 1 2 0001\n3 1 0 0000\n4 1 3 0010\n"
    "id rule number\n1 crashed 2\n2 crashed 2\n3 told 4\n4 quiet 0\n" ∷
    -- processes 3 and 4 hear all four in round 2, and process 2 is told by both: "the lowest sender"
    prints "n t\n4 3\nid vote crash reach\n1 1 2 0011\n2 1 0 0000\n3 1 0 0000\n4 1 0 0000\n"
    "id rule number\n1 crashed 2\n2 told 3\n3 quiet 0\n4 quiet 0\n" ∷
    -- and the same three lines of a refusal
    prints "n t\n3 3\n" "refused line\n1 2\n3 3\n" ∷
    []

abbrev pub ReasonsTextVectors : Type 0
ReasonsTextVectors = map (λ v. output_of reasons_shown (quoted v.text) largest longest) reasons_vectors ≡ map (λ v. quoted v.output) reasons_vectors

-- A schedule with the longest text: 64 processes, of which all but the last crash, in round t + 1 = 64.
abbrev pub longest_schedule : Schedule
longest_schedule = schedule_of 64 63 (replicate 64 1) (replicate 63 64 ++ (0 ∷ [])) (replicate 64 0)

pub record LengthVectors : Type 0 where
  -- "At most 2,048 bytes? 8, line 0.", and "a text may have 8,192 bytes": any text of 8,193 bytes
  pub too_long : (text : List ℕ) → length text ≡ 8193 → output_of (report_shown fcwfa) text largest longest ≡ quoted "refused line\n8 0\n\n"
  -- any text of 8,192 bytes gets past that question: here to line 1, which is empty
  pub long : (rest : List ℕ) → length rest ≡ 8191 → output_of (report_shown fcwfa) (lf ∷ rest) largest longest ≡ quoted "refused line\n9 1\n\n"
  -- the bound of `AllReadBack` (specs/Facts.antt) is met: a schedule is accepted whose text has 4,692 bytes
  pub longest_accepted : question longest_schedule largest true ≡ 0
  pub longest_text : length (text_of longest_schedule) ≡ longest_written
