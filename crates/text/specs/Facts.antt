-- What holds of reading and of what is printed. Proved in proofs/Theorem.antt, and assumes nothing:
-- `accepted_texts : (limit most : ℕ) → limit ≤ 99 → TextPromises limit most`,
-- `outputs : (P : Protocol) (limit most : ℕ) → ReportOutputPromises P limit most`,
-- `outcome_outputs : (P : Protocol) (limit most : ℕ) → OutcomeOutputPromises P limit most`,
-- `reasons_outputs : (limit most : ℕ) → ReasonsOutputPromises limit most`,
-- `printed_keeps_promises : (limit most : ℕ) → PrintedKeepsPromises limit most`.
use Rattle.std.specs.Prelude.{ℕ, ◌+◌, ◌≤◌, ◌<◌, ◌≡◌, ◌≢◌, List, true, length, get_or}
use Rattle.laws.specs.Answer.{accepted, refused}
use Rattle.lines.specs.Lines.{line_of}
use Rattle.sets.specs.Largest.{largest}
use Rattle.member.specs.declared.Rule.TheVariants.{ZerosOnly, LastRound}
use Rattle.member.specs.declared.Reason.{Reason}
use Rattle.schedule.specs.Schedule.{Schedule}
use Rattle.schedule.specs.Questions.{question}
use Rattle.run.specs.Protocol.{Protocol, fcwfa}
use Rattle.run.specs.Report.{Report, report}
use Rattle.run.specs.Given.{GivenPromises}
use Rattle.run.specs.Outcome.{outcome_round, outcome_decision, OutcomePromises}
use Rattle.run.specs.Why.{why_of, WhyPromises}
use Rattle.text.specs.Written.{text_of, longest_written, text_length}
use Rattle.text.specs.Reading.{longest, sizes_in, text_answer}
use Rattle.text.specs.Output.{report_text, outcome_text, reasons_text, refusal_text, report_shown, outcome_shown, reasons_shown, output_of}

-- the bytes print what is given for the schedule, and what is given keeps the promises
pub record PrintsPromises (s : Schedule) (bytes : List ℕ) : Type 0 where
  pub given : Report
  pub prints : bytes ≡ report_text s.n s.t given
  pub promises : GivenPromises s given

-- the bytes print an outcome of the schedule that keeps the promises
pub record PrintsOutcome (s : Schedule) (bytes : List ℕ) : Type 0 where
  pub decision : ℕ
  pub round : ℕ
  pub prints : bytes ≡ outcome_text decision round
  pub promises : OutcomePromises s decision round

-- the bytes print a reason for each process of the schedule, and these keep the promises
pub record PrintsReasons (s : Schedule) (bytes : List ℕ) : Type 0 where
  pub why : ℕ → Reason
  pub prints : bytes ≡ reasons_text s.n why
  pub promises : (i : ℕ) → i < s.n → WhyPromises s i (why i)

-- Two reports that are printed alike say the same: the sizes, the counts, and the decision and the round of each process. So what is printed has one
-- reading. Proved in proofs/Says.antt:
-- `one_reading : (n t : ℕ) (a : Report) (m u : ℕ) (b : Report) → report_text n t a ≡ report_text m u b → SaysTheSame n t a m u b`.
pub record SaysTheSame (n t : ℕ) (a : Report) (m u : ℕ) (b : Report) : Type 0 where
  pub same_n : n ≡ m
  pub same_t : t ≡ u
  pub f : a.f ≡ b.f
  pub first : a.first ≡ b.first
  pub last : a.last ≡ b.last
  pub messages : a.messages ≡ b.messages
  pub decisions : (i : ℕ) → i < n → get_or a.decisions i 2 ≡ get_or b.decisions i 2
  pub rounds : (i : ℕ) → i < n → get_or a.rounds i 0 ≡ get_or b.rounds i 0

-- `limit` is the largest n that is accepted, `most` how many bytes a text may have.
pub record TextPromises (limit most : ℕ) : Type 0 where
  -- an accepted text is read as an accepted schedule, and is the text of that schedule
  pub accepted_schedule : (text : List ℕ) (s : Schedule) → text_answer text limit most ≡ accepted s → question s limit true ≡ 0
  pub written : (text : List ℕ) (s : Schedule) → text_answer text limit most ≡ accepted s → text ≡ text_of s
  -- the text of an accepted schedule, if it is not too long, is read back as that schedule
  pub reads_back : (s : Schedule) → question s limit true ≡ 0 → length (text_of s) ≤ most → text_answer (text_of s) limit most ≡ accepted s
  -- a refused text is refused on line n + 4 at most, where n is the one that was read, and the refused line is not longer than a text may be
  pub line_bound : (text : List ℕ) (number k : ℕ) → text_answer text limit most ≡ refused number k → k ≤ (sizes_in text).n + 4
  pub line_short : (text : List ℕ) (number k : ℕ) → text_answer text limit most ≡ refused number k → length (line_of k text) ≤ most
  -- a refusal has a number other than 0
  pub numbered : (text : List ℕ) (number k : ℕ) → text_answer text limit most ≡ refused number k → number ≡ 0 → ⊥

-- What holds of what is printed for a refused text, whatever is shown of an accepted schedule: the number and the line's number that are read in it are
-- those of the refusal.
pub record RefusalsSay (shown : Schedule → List ℕ) (limit most : ℕ) : Type 0 where
  pub refusal_says : (text : List ℕ) (number k : ℕ) → text_answer text limit most ≡ refused number k
      → (m j : ℕ) (line : List ℕ) → output_of shown text limit most ≡ refusal_text m j line → (number ≡ m) × (k ≡ j)

-- What holds of what `bench` prints, under any protocol.
pub record ReportOutputPromises (P : Protocol) (limit most : ℕ) : Type 1 where
  -- whatever report is read in what is printed for an accepted text, it says the same as that of the run of its schedule
  pub says : (text : List ℕ) (s : Schedule) → text_answer text limit most ≡ accepted s
      → (m u : ℕ) (b : Report) → output_of (report_shown P) text limit most ≡ report_text m u b → SaysTheSame s.n s.t (report P s) m u b
  -- what is printed for a refused text is no report, and says the refusal
  pub told_apart : (text : List ℕ) (number k : ℕ) → text_answer text limit most ≡ refused number k
      → (m u : ℕ) (b : Report) → output_of (report_shown P) text limit most ≡ report_text m u b → ⊥
  pub refusals : RefusalsSay (report_shown P) limit most

-- And of what `outcome` prints.
pub record OutcomeOutputPromises (P : Protocol) (limit most : ℕ) : Type 1 where
  -- whatever outcome is read in what is printed for an accepted text, it is that of its schedule
  pub says : (text : List ℕ) (s : Schedule) → text_answer text limit most ≡ accepted s
      → (v r : ℕ) → output_of (outcome_shown P) text limit most ≡ outcome_text v r → (outcome_decision P s ≡ v) × (outcome_round P s ≡ r)
  -- what is printed for a refused text is no outcome, and says the refusal
  pub told_apart : (text : List ℕ) (number k : ℕ) → text_answer text limit most ≡ refused number k
      → (v r : ℕ) → output_of (outcome_shown P) text limit most ≡ outcome_text v r → ⊥
  pub refusals : RefusalsSay (outcome_shown P) limit most

-- Two reasons that are printed alike are of one rule, and have the same number where the rule has one.
pub record SameReason (a b : Reason) : Type 0 where
  pub rule : a.rule ≡ b.rule
  pub number : a.rule ≢ ZerosOnly → a.rule ≢ LastRound → a.number ≡ b.number

-- And of what `why` prints.
pub record ReasonsOutputPromises (limit most : ℕ) : Type 0 where
  -- whatever reasons are read in what is printed for an accepted text, they are those of the processes of its schedule
  pub says : (text : List ℕ) (s : Schedule) → text_answer text limit most ≡ accepted s
      → (m : ℕ) (why : ℕ → Reason) → output_of reasons_shown text limit most ≡ reasons_text m why → (s.n ≡ m) × ((i : ℕ) → i < m → SameReason (why_of s i) (why i))
  -- what is printed for a refused text is no list of reasons, and says the refusal
  pub told_apart : (text : List ℕ) (number k : ℕ) → text_answer text limit most ≡ refused number k
      → (m : ℕ) (why : ℕ → Reason) → output_of reasons_shown text limit most ≡ reasons_text m why → ⊥
  pub refusals : RefusalsSay reasons_shown limit most

-- Under FCWFA: what is promised of what each program prints for an accepted text.
pub record PrintedKeepsPromises (limit most : ℕ) : Type 0 where
  pub report_printed : (text : List ℕ) (s : Schedule) → text_answer text limit most ≡ accepted s → PrintsPromises s (output_of (report_shown fcwfa) text limit most)
  pub outcome_printed : (text : List ℕ) (s : Schedule) → text_answer text limit most ≡ accepted s → PrintsOutcome s (output_of (outcome_shown fcwfa) text limit most)
  pub reasons_printed : (text : List ℕ) (s : Schedule) → text_answer text limit most ≡ accepted s → PrintsReasons s (output_of reasons_shown text limit most)

-- The length of any schedule's text, accepted or not. Proved in proofs/Theorem.antt: `text_lengths : TextLengths`.
pub record TextLengths : Type 0 where
  pub long : (s : Schedule) → length (text_of s) ≡ text_length s.n s.t s.votes s.crashes

-- The text of an accepted schedule has at most 4,692 bytes, so that it is never too long, and it is read back. Proved in proofs/Theorem.antt:
-- `all_read_back : AllReadBack`.
pub record AllReadBack : Type 0 where
  pub short : (s : Schedule) → question s largest true ≡ 0 → length (text_of s) ≤ longest_written
  pub read_back : (s : Schedule) → question s largest true ≡ 0 → text_answer (text_of s) largest longest ≡ accepted s
