-- All that is promised of reading and of what is printed, whatever the largest n and the longest text that are accepted. Assumes nothing.
use mathlib.Core.Path.{◌≡◌, sym, ap, ◌∙◌}
use mathlib.Core.List.{List}
use mathlib.Core.Bool.{true}
use Prim.Native.Nat.{ℕ, ◌≤◌, ◌<◌}
use native.Mathlib.Omega.{arith}
use Rattle.laws.specs.Answer.{accepted, refused}
use Rattle.lines.specs.Lines.{line_of}
use Rattle.member.specs.declared.Reason.{Reason}
use Rattle.sets.specs.Largest.{largest}
use Rattle.schedule.specs.Schedule.{Schedule}
use Rattle.schedule.proofs.Accepted.{question_accepted}
use Rattle.run.specs.Protocol.{Protocol}
use Rattle.run.specs.Report.{Report, report}
use Rattle.run.specs.Outcome.{outcome_round, outcome_decision}
use Rattle.run.specs.Why.{why_of}
use Rattle.text.specs.Reading.{longest, text_answer}
use Rattle.text.specs.Output.{report_text, outcome_text, reasons_text, refusal_text, report_shown, outcome_shown, reasons_shown, printed, output_of}
use Rattle.text.specs.Facts.{SaysTheSame, TextPromises, RefusalsSay, ReportOutputPromises, OutcomeOutputPromises, SameReason, ReasonsOutputPromises, PrintedKeepsPromises, TextLengths, AllReadBack}
use Rattle.text.proofs.Accepted.{accepted_schedule, line_bound, line_short, numbered, prints_promises, prints_outcome, prints_reasons}
use Rattle.text.proofs.Inverse.{written}
use Rattle.text.proofs.ReadBack.{reads_back}
use Rattle.text.proofs.Decimals.{text_long, text_short}
use Rattle.text.proofs.Says.{one_reading, one_outcome, one_reasons, no_report, no_outcome, no_reasons, one_refusal}

pub accepted_texts : (limit most : ℕ) → limit ≤ 99 → TextPromises limit most
accepted_texts limit most high = record {
  accepted_schedule = λ text s. accepted_schedule text limit most s;
  written = λ text s. written limit most text s;
  reads_back = reads_back limit most high;
  line_bound = λ text. line_bound text limit most;
  line_short = λ text. line_short text limit most;
  numbered = λ text. numbered text limit most;
}

-- what is printed for a refused text is its refusal
module _ (shown : Schedule → List ℕ) (limit most : ℕ) where
  refusal_printed : (text : List ℕ) (number k : ℕ) → text_answer text limit most ≡ refused number k → output_of shown text limit most ≡ refusal_text number k (line_of k text)
  unfolding output_of
  refusal_printed text number k e = ap (printed shown text) e

  refusals_say : RefusalsSay shown limit most
  refusals_say = record {
    refusal_says = λ text number k e m j line h. one_refusal number k (line_of k text) m j line (sym (refusal_printed text number k e) ∙ h);
  }

module _ (P : Protocol) (limit most : ℕ) where
  -- whatever report is read in what is printed for an accepted text says the same as that of the run of its schedule
  printed_says : (text : List ℕ) (s : Schedule) → text_answer text limit most ≡ accepted s
      → (m u : ℕ) (b : Report) → output_of (report_shown P) text limit most ≡ report_text m u b → SaysTheSame s.n s.t (report P s) m u b
  unfolding output_of
  printed_says text s e m u b h = one_reading s.n s.t (report P s) m u b (sym (ap (printed (report_shown P) text) e) ∙ h)

  -- and whatever outcome is read is that of its schedule
  outcome_says : (text : List ℕ) (s : Schedule) → text_answer text limit most ≡ accepted s
      → (v r : ℕ) → output_of (outcome_shown P) text limit most ≡ outcome_text v r → (outcome_decision P s ≡ v) × (outcome_round P s ≡ r)
  unfolding output_of
  outcome_says text s e v r h = one_outcome (outcome_decision P s) (outcome_round P s) v r (sym (ap (printed (outcome_shown P) text) e) ∙ h)

  pub outputs : ReportOutputPromises P limit most
  outputs = record {
    says = printed_says;
    told_apart = λ text number k e m u b h. no_report number k (line_of k text) m u b (sym (refusal_printed (report_shown P) limit most text number k e) ∙ h);
    refusals = refusals_say (report_shown P) limit most;
  }

  pub outcome_outputs : OutcomeOutputPromises P limit most
  outcome_outputs = record {
    says = outcome_says;
    told_apart = λ text number k e v r h. no_outcome number k (line_of k text) v r (sym (refusal_printed (outcome_shown P) limit most text number k e) ∙ h);
    refusals = refusals_say (outcome_shown P) limit most;
  }

module _ (limit most : ℕ) where
  -- and whatever reasons are read are those of its processes
  reasons_say : (text : List ℕ) (s : Schedule) → text_answer text limit most ≡ accepted s
      → (m : ℕ) (why : ℕ → Reason) → output_of reasons_shown text limit most ≡ reasons_text m why → (s.n ≡ m) × ((i : ℕ) → i < m → SameReason (why_of s i) (why i))
  unfolding output_of
  reasons_say text s e m why h = one_reasons s.n m (why_of s) why (sym (ap (printed reasons_shown text) e) ∙ h)

  pub reasons_outputs : ReasonsOutputPromises limit most
  reasons_outputs = record {
    says = reasons_say;
    told_apart = λ text number k e m why h. no_reasons number k (line_of k text) m why (sym (refusal_printed reasons_shown limit most text number k e) ∙ h);
    refusals = refusals_say reasons_shown limit most;
  }

pub printed_keeps_promises : (limit most : ℕ) → PrintedKeepsPromises limit most
printed_keeps_promises limit most = record {
  report_printed = λ text s. prints_promises text limit most s;
  outcome_printed = λ text s. prints_outcome text limit most s;
  reasons_printed = λ text s. prints_reasons text limit most s;
}

pub text_lengths : TextLengths
text_lengths = record { long = text_long }

pub all_read_back : AllReadBack
all_read_back = record {
  short = λ s e. text_short s (question_accepted s largest true e);
  read_back = λ s e. let short = text_short s (question_accepted s largest true e) in reads_back largest longest (omega arith) s e (omega arith);
}
