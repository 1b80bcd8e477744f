-- What `printed` answers.
use Rattle.std.specs.Prelude.{ℕ, ◌+◌, ◌-◌, ◌≡◌, List, ◌++◌, length, take, replicate}
use Rattle.laws.specs.Answer.{accepted}
use Rattle.sets.specs.Largest.{largest}
use Rattle.schedule.specs.Schedule.{Schedule}
use Rattle.run.specs.Protocol.{fcwfa}
use Rattle.text.specs.Reading.{longest, text_answer}
use Rattle.text.specs.Output.{report_shown, outcome_shown, reasons_shown}
use Rattle.text.specs.Facts.{PrintsPromises, PrintsOutcome, PrintsReasons}
use Rattle.output.specs.declared.Output.{Output}
use Rattle.output.specs.declared.Wanted.{Wanted}

-- so many zeros
abbrev pub zeros : ℕ → List ℕ
zeros count = replicate count 0

-- How many bytes an output has at most: the longest is the refusal of a line that is as long as a text may be, and the lines before it have less than 64.
abbrev pub output_size : ℕ
output_size = longest + 64

-- the output's bytes, with zeros after them, and how many they are
abbrev pub output_is : List ℕ → Output
output_is written = record { bytes = written ++ zeros (output_size - length written); length = length written }

-- for each thing that may be wanted of an accepted schedule, what is printed
abbrev pub shown_of : Wanted → Schedule → List ℕ
shown_of Wanted.Report = report_shown fcwfa
shown_of Wanted.Outcome = outcome_shown fcwfa
shown_of Wanted.Reasons = reasons_shown

-- and what is promised of it
abbrev pub Prints : Wanted → Schedule → List ℕ → Type 0
Prints Wanted.Report = PrintsPromises
Prints Wanted.Outcome = PrintsOutcome
Prints Wanted.Reasons = PrintsReasons

-- What is promised of what is printed: wherever the text is accepted, of the bytes that are answered.
pub record OutputKeepsPromises (wanted : Wanted) (text : List ℕ) (r : Output) : Type 0 where
  pub kept : (s : Schedule) → text_answer text largest longest ≡ accepted s → Prints wanted s (take r.length r.bytes)
