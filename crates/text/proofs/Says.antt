-- What is printed has one reading: the byte that ends a field is no digit, so that the field's number and what follows it are known, and field by field so are
-- the line of counts and each line of a decision or of a reason; the letter of a decision and the first letter of a rule's word are those of no other. Assumes
-- nothing.
use mathlib.Core.Path.{◌≡◌, refl, sym, ap, ◌∙◌}
use mathlib.Core.Logic.{inl, inr, ◌≢◌}
use mathlib.Core.List.{List, [], ◌∷◌, ◌++◌, append_assoc, append-nil}
use mathlib.Core.Bool.{false, cond}
use Prim.Native.Nat.{ℕ, zero, suc, ◌+◌, ◌≤◌, ◌<◌}
use native.Mathlib.Omega.{arith}
use borrow.Author.Tests.{eqb-true}
use lib.ListN.{get_or, length, length-append}
use lib.Dec.{eqb}
use Rattle.laws.specs.Below.{fold}
use Rattle.laws.specs.Quoted.{quoted}
use Rattle.laws.proofs.Test.{true_or_false, cond_false}
use Rattle.laws.proofs.Counting.{below_or_top, split}
use Rattle.lines.specs.Lines.{lf}
use Rattle.fields.specs.Decimal.{letter, decimal, field}
use Rattle.fields.specs.Fields.{space}
use Rattle.fields.proofs.Digits.{same_number}
use Rattle.member.specs.declared.Rule.{Rule}
use Rattle.member.specs.declared.Rule.TheVariants.{Told, ZerosOnly, Quiet, RoundT, LastRound, NoRule}
use Rattle.member.specs.declared.Reason.{Reason}
use Rattle.run.specs.Report.{Report}
use Rattle.text.specs.Written.{each_line}
use Rattle.text.specs.Output.{counts_heading, decisions_heading, refused_heading, outcome_heading, reasons_heading, decision_letter, decided_fields, counts_line, decision_line, decision_lines, report_text, outcome_text, rule_word, number_shown, reason_line, reason_lines, reasons_text, refusal_text}
use Rattle.text.specs.Facts.{SaysTheSame, SameReason}
use Rattle.text.proofs.Lines.{each_at}

-- The letter of a decision, `-` for none, which comes before all digits, or the decision's digit, is that of no other decision.
none_low : decision_letter 2 < letter 0
unfolding decision_letter
none_low = omega arith

some_letter : (decision : ℕ) → eqb decision 2 ≡ false → decision_letter decision ≡ letter decision
unfolding decision_letter
some_letter decision some = cond_false (eqb decision 2) _ (letter decision) some

same_letter : (a b : ℕ) → decision_letter a ≡ decision_letter b → a ≡ b
same_letter a b e =
    let low = none_low in
    elim (true_or_false (eqb a 2)) [
      | inl x ↦
          let none : a ≡ 2 = eqb-true a 2 x in
          let dash : decision_letter a ≡ decision_letter 2 = ap decision_letter none in
          elim (true_or_false (eqb b 2)) [
            | inl y ↦ none ∙ sym (eqb-true b 2 y)
            | inr y ↦ let digit = some_letter b y in absurd (omega arith)
          ]
      | inr x ↦
          let digit = some_letter a x in
          elim (true_or_false (eqb b 2)) [
            | inl y ↦
                let dash : decision_letter b ≡ decision_letter 2 = ap decision_letter (eqb-true b 2 y) in
                absurd (omega arith)
            | inr y ↦ let other = some_letter b y in omega arith
          ]
    ]

-- What follows the same letters.
same_rest : (letters rest others : List ℕ) → letters ++ rest ≡ letters ++ others → rest ≡ others
same_rest [] rest others e = e
same_rest (b ∷ letters) rest others e = same_rest letters rest others (cc e)

-- A field, with what follows it.
module _ (end : ℕ) (low : end < letter 0) where
  same_field : (x y : ℕ) (rest others : List ℕ) → field x end ++ rest ≡ field y end ++ others → (x ≡ y) × (rest ≡ others)
  unfolding field
  same_field x y rest others e =
      same_number end low x y rest others (sym (append_assoc (decimal x) (end ∷ []) rest) ∙ e ∙ append_assoc (decimal y) (end ∷ []) others)

-- A decision and its round at the end of a line, with what follows it.
same_decided : (d r e q : ℕ) (rest others : List ℕ) → decided_fields d r ++ rest ≡ decided_fields e q ++ others → ((d ≡ e) × (r ≡ q)) × (rest ≡ others)
same_decided d r e q rest others h =
    let letters : decision_letter d ≡ decision_letter e = cc h in
    let round = same_field lf (omega arith) r q rest others (cc h) in
    ((same_letter d e letters, round.0), round.1)

-- The line of a decision, with what follows it.
decision_parts : (i decision round : ℕ) (rest : List ℕ) → decision_line i decision round ++ rest ≡ field (i + 1) space ++ (decided_fields decision round ++ rest)
unfolding decision_line
decision_parts i decision round rest = append_assoc (field (i + 1) space) (decided_fields decision round) rest

same_decision : (i d r e q : ℕ) (rest others : List ℕ) → decision_line i d r ++ rest ≡ decision_line i e q ++ others → ((d ≡ e) × (r ≡ q)) × (rest ≡ others)
same_decision i d r e q rest others h =
    same_decided d r e q rest others (same_field space (omega arith) (i + 1) (i + 1) _ _ (sym (decision_parts i d r rest) ∙ h ∙ decision_parts i e q others)).1

-- Lines one after the other, where line i of both with what follows it gives P i and that what follows is the same.
module _ (line other : ℕ → List ℕ) (P : ℕ → Type 0) (one : (i : ℕ) (rest others : List ℕ) → line i ++ rest ≡ other i ++ others → P i × (rest ≡ others)) where
  same_each : (n : ℕ) (rest others : List ℕ) → each_line n line ++ rest ≡ each_line n other ++ others → ((i : ℕ) → i < n → P i) × (rest ≡ others)
  unfolding each_line fold
  same_each zero rest others e = (λ i l. absurd (omega arith), e)
  same_each (suc n) rest others e =
      let both = sym (append_assoc (each_line n line) (line n) rest) ∙ e ∙ append_assoc (each_line n other) (other n) others in
      let before = same_each n (line n ++ rest) (other n ++ others) both in
      let top = one n rest others before.1 in
      (below_or_top P n before.0 top.0, top.1)

same_decisions : (n : ℕ) (a b : Report) → decision_lines n a.decisions a.rounds ≡ decision_lines n b.decisions b.rounds
    → (i : ℕ) → i < n → (get_or a.decisions i 2 ≡ get_or b.decisions i 2) × (get_or a.rounds i 0 ≡ get_or b.rounds i 0)
unfolding decision_lines
same_decisions n a b e =
    (same_each _ _ (λ i. (get_or a.decisions i 2 ≡ get_or b.decisions i 2) × (get_or a.rounds i 0 ≡ get_or b.rounds i 0))
    (λ i. same_decision i (get_or a.decisions i 2) (get_or a.rounds i 0) (get_or b.decisions i 2) (get_or b.rounds i 0))
    n [] [] (append-nil _ ∙ e ∙ sym (append-nil _))).0

-- The line of counts, with what follows it.
counts_parts : (n t : ℕ) (a : Report) (rest : List ℕ)
    → counts_line n t a ++ rest
    ≡ field n space
    ++ (field t space
    ++ (field a.f space
    ++ (field a.first space
    ++ (field a.last space
    ++ (field a.messages lf
    ++ rest)))))
unfolding counts_line
counts_parts n t a rest = simp append_assoc

pub one_reading : (n t : ℕ) (a : Report) (m u : ℕ) (b : Report) → report_text n t a ≡ report_text m u b → SaysTheSame n t a m u b
unfolding report_text
one_reading n t a m u b e =
    let counts = same_rest counts_heading _ _ e in
    let n-read = same_field space (omega arith) n m _ _ (sym (counts_parts n t a _) ∙ counts ∙ counts_parts m u b _) in
    let t-read = same_field space (omega arith) t u _ _ n-read.1 in
    let f-read = same_field space (omega arith) a.f b.f _ _ t-read.1 in
    let first_read = same_field space (omega arith) a.first b.first _ _ f-read.1 in
    let last-read = same_field space (omega arith) a.last b.last _ _ first_read.1 in
    let messages-read = same_field lf (omega arith) a.messages b.messages _ _ last-read.1 in
    let lines = same_rest decisions_heading _ _ messages-read.1 in
    let each = same_decisions n a b (lines ∙ ap (λ (k : ℕ). decision_lines k b.decisions b.rounds) (sym n-read.0)) in
    record {
      same_n = n-read.0;
      same_t = t-read.0;
      f = f-read.0;
      first = first_read.0;
      last = last-read.0;
      messages = messages-read.0;
      decisions = λ i l. (each i l).0;
      rounds = λ i l. (each i l).1;
    }

pub one_outcome : (d r e q : ℕ) → outcome_text d r ≡ outcome_text e q → (d ≡ e) × (r ≡ q)
unfolding outcome_text
one_outcome d r e q h =
    let values = same_rest outcome_heading _ _ h in
    (same_decided d r e q [] [] (append-nil _ ∙ values ∙ sym (append-nil _))).0

-- The rule of a word that starts a text: its first letter tells it.
abbrev first_letter : Rule → ℕ
first_letter p = get_or (rule_word p) 0 0

rule_read : List ℕ → Rule
rule_read text =
    let first = get_or text 0 0 in
    cond (eqb first (first_letter Told)) Told
    (cond (eqb first (first_letter ZerosOnly)) ZerosOnly
    (cond (eqb first (first_letter Quiet)) Quiet
    (cond (eqb first (first_letter RoundT)) RoundT
    (cond (eqb first (first_letter LastRound)) LastRound NoRule))))

rule_read_lem : (p : Rule) (rest : List ℕ) → rule_read (rule_word p ++ rest) ≡ p
unfolding rule_read rule_word
rule_read_lem Told rest = refl
rule_read_lem ZerosOnly rest = refl
rule_read_lem Quiet rest = refl
rule_read_lem RoundT rest = refl
rule_read_lem LastRound rest = refl
rule_read_lem NoRule rest = refl

-- The number of a rule at the end of a line, with what follows it.
module _ (x y : ℕ) (rest others : List ℕ) where
  same_number_shown : {A B : Type 0} → field x lf ++ rest ≡ field y lf ++ others → (A → B → x ≡ y) × (rest ≡ others)
  same_number_shown e = let both = same_field lf (omega arith) x y rest others e in (λ _ _. both.0, both.1)

  same_given : (p : Rule) → number_shown p x ++ rest ≡ number_shown p y ++ others → (p ≢ ZerosOnly → p ≢ LastRound → x ≡ y) × (rest ≡ others)
  unfolding number_shown
  same_given Told e = same_number_shown e
  same_given ZerosOnly e = (λ other _. absurd (other refl), same_rest (quoted "-\n") rest others e)
  same_given Quiet e = same_number_shown e
  same_given RoundT e = same_number_shown e
  same_given LastRound e = (λ _ other. absurd (other refl), same_rest (quoted "-\n") rest others e)
  same_given NoRule e = same_number_shown e

-- The line of a reason, with what follows it.
reason_parts : (id : ℕ) (why : Reason) (rest : List ℕ)
    → reason_line id why ++ rest ≡ field id space ++ (rule_word why.rule ++ (space ∷ (number_shown why.rule why.number ++ rest)))
unfolding reason_line
reason_parts id why rest = simp append_assoc

same_reason : (id : ℕ) (a b : Reason) (rest others : List ℕ) → reason_line id a ++ rest ≡ reason_line id b ++ others → SameReason a b × (rest ≡ others)
same_reason id a b rest others e =
    let words = (same_field space (omega arith) id id _ _ (sym (reason_parts id a rest) ∙ e ∙ reason_parts id b others)).1 in
    let rule : a.rule ≡ b.rule = sym (rule_read_lem a.rule _) ∙ ap rule_read words ∙ rule_read_lem b.rule _ in
    let ends = same_rest (rule_word a.rule) _ _ (words ∙ ap (λ (p : Rule). rule_word p ++ (space ∷ (number_shown p b.number ++ others))) (sym rule)) in
    let both = same_given a.number b.number rest others a.rule (cc ends) in
    (record { rule = rule; number = both.0 }, both.1)

-- The lines of the reasons of n processes, and those of m.

module _ (a b : ℕ → Reason) where
  same_reasons : (n : ℕ) (rest : List ℕ) → reason_lines n a ≡ reason_lines n b ++ rest → ((i : ℕ) → i < n → SameReason (a i) (b i)) × ([] ≡ rest)
  same_reasons n rest e = same_each _ _ (λ i. SameReason (a i) (b i)) (λ i. same_reason (i + 1) (a i) (b i)) n [] rest (append-nil _ ∙ e)

  -- there is no line after the last: it would have a space
  no_more : (n m : ℕ) → reason_lines n a ≡ reason_lines m b → m ≤ n
  unfolding reason_line
  no_more n m e =
      elim (split m n) [
        | inl l ↦ l
        | inr l ↦
            let next = each_at (λ i. reason_line (i + 1) (b i)) m n l in
            let none = (same_reasons n _ (e ∙ next.1)).1 in
            absurd (omega (arith, simp length-append at (ap length none)))
      ]

pub one_reasons : (n m : ℕ) (a b : ℕ → Reason) → reasons_text n a ≡ reasons_text m b → (n ≡ m) × ((i : ℕ) → i < m → SameReason (a i) (b i))
unfolding reasons_text
one_reasons n m a b h =
    let lines = same_rest reasons_heading _ _ h in
    let low = no_more a b n m lines in
    let high = no_more b a m n (sym lines) in
    let size : n ≡ m = omega arith in
    (size, (same_reasons a b m [] (ap (λ (k : ℕ). reason_lines k a) (sym size) ∙ lines ∙ sym (append-nil _))).0)

-- A refusal is no report, no outcome and no list of reasons: already their first letters differ. And it has one reading, too.
pub no_report : (number k : ℕ) (line : List ℕ) (m u : ℕ) (b : Report) → refusal_text number k line ≡ report_text m u b → ⊥
unfolding refusal_text report_text
no_report number k line m u b e =
    let letters : ◌≡◌ {A = ℕ} 114 110 = ap (λ (xs : List ℕ). get_or xs 0 0) e in
    absurd (omega arith)

pub no_outcome : (number k : ℕ) (line : List ℕ) (d r : ℕ) → refusal_text number k line ≡ outcome_text d r → ⊥
unfolding refusal_text outcome_text
no_outcome number k line d r e =
    let letters : ◌≡◌ {A = ℕ} 114 100 = ap (λ (xs : List ℕ). get_or xs 0 0) e in
    absurd (omega arith)

pub no_reasons : (number k : ℕ) (line : List ℕ) (m : ℕ) (why : ℕ → Reason) → refusal_text number k line ≡ reasons_text m why → ⊥
unfolding refusal_text reasons_text
no_reasons number k line m why e =
    let letters : ◌≡◌ {A = ℕ} 114 105 = ap (λ (xs : List ℕ). get_or xs 0 0) e in
    absurd (omega arith)

pub one_refusal : (number k : ℕ) (line : List ℕ) (m j : ℕ) (other : List ℕ) → refusal_text number k line ≡ refusal_text m j other → (number ≡ m) × (k ≡ j)
unfolding refusal_text
one_refusal number k line m j other e =
    let numbers = same_field _ (omega arith) number m _ _ (same_rest refused_heading _ _ e) in
    (numbers.0, (same_field _ (omega arith) k j _ _ numbers.1).0)
