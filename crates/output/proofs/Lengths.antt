-- The length of an output: a number of 64 bits has at most 20 digits, so a report has at most 2,986 bytes, an outcome and the reasons less, and a refusal at
-- most 56 beside its line. Assumes nothing.
use mathlib.Core.List.{List}
use Prim.Native.Nat.{ℕ, ◌+◌, ◌^◌, ◌≤◌, ◌<◌}
use native.Mathlib.Omega.{arith}
use lib.ListN.{length, get_or, length-append}
use Rattle.sets.specs.Largest.{largest}
use Rattle.lines.specs.Lines.{lf}
use Rattle.fields.specs.Fields.{space}
use Rattle.member.specs.declared.Rule.{Rule}
use Rattle.member.specs.declared.Rule.TheVariants.{Told, ZerosOnly, Quiet, RoundT, LastRound, NoRule}
use Rattle.member.specs.declared.Reason.{Reason}
use Rattle.run.specs.Report.{Report}
use Rattle.text.specs.Reading.{longest}
use Rattle.text.specs.Output.{counts_line, decision_line, decision_lines, report_text, outcome_text, rule_word, number_shown, reason_line, reasons_text, refusal_text}
use Rattle.output.specs.Answers.{output_size}
use Rattle.text.proofs.Decimals.{field_short, each_short}

line_short : (i decision round : ℕ) → i < largest → round < 2 ^ 64 → length (decision_line i decision round) ≤ 44
unfolding decision_line
line_short i decision round hi hr =
    let own = field_short 19 (i + 1) space (omega arith) in
    let last = field_short 19 round lf (omega arith) in
    simp length-append (omega arith)

pub report_short : (n t : ℕ) (given : Report) → n ≤ largest → t < 2 ^ 64 → given.f < 2 ^ 64 → given.first < 2 ^ 64 → given.last < 2 ^ 64 → given.messages < 2 ^ 64
    → ((i : ℕ) → get_or given.rounds i 0 < 2 ^ 64) → length (report_text n t given) ≤ output_size
unfolding report_text counts_line decision_lines
report_short n t given hn ht hf h1 hl hm hr =
    let a = field_short 19 n space (omega arith) in
    let b = field_short 19 t space (omega arith) in
    let c = field_short 19 given.f space (omega arith) in
    let d = field_short 19 given.first space (omega arith) in
    let e = field_short 19 given.last space (omega arith) in
    let f = field_short 19 given.messages lf (omega arith) in
    let lines = each_short n 44 (λ i. decision_line i (get_or given.decisions i 2) (get_or given.rounds i 0)) (λ i l. line_short i _ _ (omega arith) (hr i)) in
    simp length-append (omega arith)

pub outcome_short : (decision round : ℕ) → round < 2 ^ 64 → length (outcome_text decision round) ≤ output_size
unfolding outcome_text
outcome_short decision round hr =
    let last = field_short 19 round lf (omega arith) in
    simp length-append (omega arith)

word_short : (rule : Rule) → length (rule_word rule) ≤ 7
unfolding rule_word
word_short Told = omega arith
word_short ZerosOnly = omega arith
word_short Quiet = omega arith
word_short RoundT = omega arith
word_short LastRound = omega arith
word_short NoRule = omega arith

number_short : (rule : Rule) (number : ℕ) → number < 256 → length (number_shown rule number) ≤ 4
unfolding number_shown
number_short Told number h = field_short 2 number lf (omega arith)
number_short ZerosOnly number h = omega arith
number_short Quiet number h = field_short 2 number lf (omega arith)
number_short RoundT number h = field_short 2 number lf (omega arith)
number_short LastRound number h = omega arith
number_short NoRule number h = field_short 2 number lf (omega arith)

reason_short : (i : ℕ) (why : Reason) → i < largest → why.number < 256 → length (reason_line (i + 1) why) ≤ 33
unfolding reason_line
reason_short i why hi hw =
    let own = field_short 19 (i + 1) space (omega arith) in
    let word = word_short why.rule in
    let last = number_short why.rule why.number hw in
    simp length-append (omega arith)

pub reasons_short : (n : ℕ) (why : ℕ → Reason) → n ≤ largest → ((i : ℕ) → i < n → (why i).number < 256) → length (reasons_text n why) ≤ output_size
unfolding reasons_text
reasons_short n why hn hw =
    let lines = each_short n 33 (λ i. reason_line (i + 1) (why i)) (λ i l. reason_short i (why i) (omega arith) (hw i l)) in
    simp length-append (omega arith)

pub refusal_short : (number k : ℕ) (line : List ℕ) → number < 2 ^ 64 → k < 2 ^ 64 → length line ≤ longest → length (refusal_text number k line) ≤ output_size
unfolding refusal_text
refusal_short number k line hn hk hl =
    let a = field_short 19 number space (omega arith) in
    let b = field_short 19 k lf (omega arith) in
    simp length-append (omega arith)
