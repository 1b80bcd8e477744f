-- What the programs `bench`, `outcome` and `why` print for a text, accepted or refused, as bytes.
use Rattle.std.specs.Prelude.{ℕ, ◌+◌, List, [], ◌∷◌, ◌++◌, cond, get_or, eqb}
use Prim.Native.Char.{code}
use Rattle.laws.specs.Quoted.{quoted}
use Rattle.laws.specs.Answer.{Answer, accepted, refused}
use Rattle.lines.specs.Lines.{lf, line_of}
use Rattle.fields.specs.Decimal.{letter, field}
use Rattle.fields.specs.Fields.{space}
use Rattle.member.specs.declared.Rule.{Rule}
use Rattle.member.specs.declared.Rule.TheVariants.{Told, ZerosOnly, Quiet, RoundT, LastRound, NoRule}
use Rattle.member.specs.declared.Reason.{Reason}
use Rattle.schedule.specs.Schedule.{Schedule}
use Rattle.run.specs.Protocol.{Protocol}
use Rattle.run.specs.Report.{Report, report}
use Rattle.run.specs.Outcome.{outcome_round, outcome_decision}
use Rattle.run.specs.Why.{why_of}
use Rattle.text.specs.Written.{each_line}
use Rattle.text.specs.Reading.{text_answer}

-- `n t f first last messages`, with its LF
abbrev pub counts_heading : List ℕ
counts_heading = quoted "n t f first last messages\n"

-- `id decision round`, with its LF
abbrev pub decisions_heading : List ℕ
decisions_heading = quoted "id decision round\n"

-- `refused line`, with its LF
abbrev pub refused_heading : List ℕ
refused_heading = quoted "refused line\n"

-- "`-` is "none"", else the decision's digit
unfoldable pub decision_letter : ℕ → ℕ
decision_letter decision = cond (eqb decision 2) (code "-") (letter decision)

-- the line of values under the first heading
unfoldable pub counts_line : ℕ → ℕ → Report → List ℕ
counts_line n t given =
    field n space
    ++ (field t space
    ++ (field given.f space
    ++ (field given.first space
    ++ (field given.last space
    ++ field given.messages lf))))

-- a decision and its round, at the end of a line
abbrev pub decided_fields : ℕ → ℕ → List ℕ
decided_fields decision round = (decision_letter decision ∷ space ∷ []) ++ field round lf

-- the line of the process at place i, whose number is i + 1
unfoldable pub decision_line : ℕ → ℕ → ℕ → List ℕ
decision_line i decision round = field (i + 1) space ++ decided_fields decision round

-- the lines of n processes, from their decisions and rounds
unfoldable pub decision_lines : ℕ → List ℕ → List ℕ → List ℕ
decision_lines n decisions rounds = each_line n (λ i. decision_line i (get_or decisions i 2) (get_or rounds i 0))

-- what is printed of what the bench gives for a schedule of n processes that is set up to bear t crashes
unfoldable pub report_text : ℕ → ℕ → Report → List ℕ
report_text n t given =
    counts_heading
    ++ (counts_line n t given
    ++ (decisions_heading
    ++ decision_lines n given.decisions given.rounds))

-- `decision round`, with its LF
abbrev pub outcome_heading : List ℕ
outcome_heading = quoted "decision round\n"

-- what is printed of an outcome: "a line of names, then lines of values in that order"
unfoldable pub outcome_text : ℕ → ℕ → List ℕ
outcome_text decision round = outcome_heading ++ decided_fields decision round

-- `id rule number`, with its LF
abbrev pub reasons_heading : List ℕ
reasons_heading = quoted "id rule number\n"

-- the word for each rule: "a decided message", "round 2 with zeros only, a quiet round", "round t", "or the last round"; no rule is named of "a process
-- without a decision", and its number is that of its crash round
unfoldable pub rule_word : Rule → List ℕ
rule_word Told = quoted "told"
rule_word ZerosOnly = quoted "zeros"
rule_word Quiet = quoted "quiet"
rule_word RoundT = quoted "round-t"
rule_word LastRound = quoted "last"
rule_word NoRule = quoted "crashed"

-- the number that goes with a rule, at the end of a line, and `-` for the two that have none
unfoldable pub number_shown : Rule → ℕ → List ℕ
number_shown Told number = field number lf
number_shown ZerosOnly number = quoted "-\n"
number_shown Quiet number = field number lf
number_shown RoundT number = field number lf
number_shown LastRound number = quoted "-\n"
number_shown NoRule number = field number lf

-- the line of the process with this number
unfoldable pub reason_line : ℕ → Reason → List ℕ
reason_line id why = field id space ++ (rule_word why.rule ++ ((space ∷ []) ++ number_shown why.rule why.number))

-- the lines of n processes, from the reasons of those at places 0, 1, ..
abbrev pub reason_lines : ℕ → (ℕ → Reason) → List ℕ
reason_lines n why = each_line n (λ i. reason_line (i + 1) (why i))

-- what is printed of these reasons
unfoldable pub reasons_text : ℕ → (ℕ → Reason) → List ℕ
reasons_text n why = reasons_heading ++ reason_lines n why

-- "A refused text prints three lines: `refused line`; the number and the line's number split by one space; that line itself (empty for line 0)."
unfoldable pub refusal_text : ℕ → ℕ → List ℕ → List ℕ
refusal_text number k line = refused_heading ++ (field number space ++ (field k lf ++ (line ++ (lf ∷ []))))

-- what `bench` prints for an accepted schedule that is run under a protocol, and what `outcome` prints
module _ (P : Protocol) (s : Schedule) where
  abbrev pub report_shown : List ℕ
  report_shown = report_text s.n s.t (report P s)

  abbrev pub outcome_shown : List ℕ
  outcome_shown = outcome_text (outcome_decision P s) (outcome_round P s)

-- and what `why` prints, which runs FCWFA
abbrev pub reasons_shown : Schedule → List ℕ
reasons_shown s = reasons_text s.n (why_of s)

-- Of a program that prints `shown s` for an accepted schedule s.
module _ (shown : Schedule → List ℕ) (text : List ℕ) where
  -- what is printed for a text whose reading has this answer
  abbrev pub printed : Answer Schedule ℕ → List ℕ
  printed (accepted s) = shown s
  printed (refused number k) = refusal_text number k (line_of k text)

  -- the whole output of a text, whatever its bytes and its length
  unfoldable pub output_of : ℕ → ℕ → List ℕ
  output_of limit most = printed (text_answer text limit most)
