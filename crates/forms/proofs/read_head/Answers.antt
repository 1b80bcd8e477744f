-- `read_head` meets its contract: each question that is passed goes on to the next. Assumes nothing.
use Rattle.std.proofs.Common.{◌≡◌, List, ℕ, true, sym, refl, ap, ◌∙◌, length}
use Rattle.std.specs.Prelude.{Some, is_some}
use native.Mathlib.Omega.{arith}
use borrow.Author.Tests.{le-leb, lt-leb}
use lib.Dec.{leb}
use Rattle.laws.specs.Answer.{accepted}
use Rattle.laws.proofs.Refusals.{not_zero}
use Rattle.lines.specs.Lines.{after_lines}
use Rattle.lines.proofs.Parts.{part_after}
use Rattle.fields.specs.Fields.{starts_with}
use Rattle.sets.specs.Largest.{largest}
use Rattle.member.specs.Opening.{size_questions}
use Rattle.text.specs.declared.Sizes.{Sizes}
use Rattle.text.specs.Forms.{sizes_heading, processes_heading, sizes_at}
use Rattle.text.specs.Reading.{longest, is_found, sizes_in}
use Rattle.forms.specs.Answers.{value_of}
use Rattle.forms.proofs.LineForms.{not_found, is_found_lem, found_value}
use Rattle.forms.proofs.InOrder.{head_8, head_1, head_2, head_sizes, head_3, head_passed}
use Rattle.forms.proofs.read_head.Goals as goal
use Rattle.forms.proofs.read_head.Goals.{After-read_heading-2, After-read_sizes, Else-text-gt-LONGEST, In-Some, In-Some-read_sizes}

pub returns-then-text-gt-LONGEST : goal.returns-then-text-gt-LONGEST
returns-then-text-gt-LONGEST c =
    record { asked = rw c.refused_by.ensures.is (let text = c.args.text.now in head_8 text _ _ _ (lt-leb (length text) longest (omega arith))) }

-- the text is not too long
short : (c : Else-text-gt-LONGEST) → leb (length c.args.text.now) longest ≡ true
short c = le-leb (length c.args.text.now) longest (omega arith)

pub returns-in_default : goal.returns-in_default
returns-in_default c =
    record { asked = rw c.refused_by-in_default.ensures.is (head_1 _ _ _ _ (short (goal.at.returns-in_default c).Else-text-gt-LONGEST) (sym c.in_default.ensures.read)) }

-- line 1 is the heading
first : (c : In-Some) → starts_with sizes_heading c.args.text.now ≡ true
first c = sym c.in-Some.ensures.read

-- line 2 is read
second : (c : After-read_sizes) → c.read_sizes.result ≡ value_of (sizes_at (after_lines 1 c.args.text.now))
second c =
    c.read_sizes.ensures.read
    ∙ ap (λ (part : List ℕ). value_of (sizes_at part)) (part_after c.args.text.now 1 c.from.ensures.part c.line_start.ensures.start)

pub returns-in_default-read_sizes : goal.returns-in_default-read_sizes
returns-in_default-read_sizes c =
    let at = goal.at.returns-in_default-read_sizes c in
    record {
      asked = rw c.refused_by-in_default-read_sizes.ensures.is
          (head_2 _ _ _ _ (short at.Else-text-gt-LONGEST) (first at.In-Some) (not_found (sizes_at (after_lines 1 c.args.text.now)) (sym c.in_default-read_sizes.is ∙ second at.After-read_sizes)));
    }

-- the two values are those of the text
values : (c : In-Some-read_sizes) → Some c.in-Some-read_sizes.sizes ≡ value_of (sizes_at (after_lines 1 c.args.text.now))
values c = sym c.in-Some-read_sizes.is ∙ second (goal.at.In-Some-read_sizes c).After-read_sizes

of_its_form : (c : In-Some-read_sizes) → is_found (sizes_at (after_lines 1 c.args.text.now)) ≡ true
of_its_form c = is_found_lem (sizes_at (after_lines 1 c.args.text.now)) (values c)

sizes : (c : In-Some-read_sizes) → c.in-Some-read_sizes.sizes ≡ sizes_in c.args.text.now
sizes c = found_value (record { n = 0; t = 0 }) (sizes_at (after_lines 1 c.args.text.now)) (values c)

asked : (c : In-Some-read_sizes) {q : ℕ} → q ≡ size_questions largest c.in-Some-read_sizes.sizes.n c.in-Some-read_sizes.sizes.t 0
    → let text = c.args.text.now in q ≡ size_questions largest (sizes_in text).n (sizes_in text).t 0
asked c e = e ∙ ap (λ (s : Sizes). size_questions largest s.n s.t 0) (sizes c)

pub returns-in-Err : goal.returns-in-Err
returns-in-Err c =
    let at = goal.at.returns-in-Err c in
    record {
      asked = rw c.refused_by-in-Err.ensures.is
          (head_sizes _ _ _ _ (short at.Else-text-gt-LONGEST) (first at.In-Some) (of_its_form at.In-Some-read_sizes) _ (asked at.In-Some-read_sizes c.in-Err.ensures.asked) (not_zero _));
    }

-- line 3 is compared
third : (c : After-read_heading-2) → is_some c.read_heading-2.result ≡ starts_with processes_heading (after_lines 2 c.args.text.now)
third c =
    let part = part_after c.args.text.now 2 c.from-third.ensures.part c.line_start-2.ensures.start in
    c.read_heading-2.ensures.read ∙ ap (starts_with processes_heading) part

pub returns-in_default-read_heading : goal.returns-in_default-read_heading
returns-in_default-read_heading c =
    let at = goal.at.returns-in_default-read_heading c in
    record {
      asked = rw c.refused_by-in_default-read_heading.ensures.is
          (head_3 _ _ _ _ (short at.Else-text-gt-LONGEST) (first at.In-Some) (of_its_form at.In-Some-read_sizes) _ (asked at.In-Some-read_sizes c.in_default-size_question.ensures.asked) refl
          (sym (third at.After-read_heading-2) ∙ ap is_some c.in_default-read_heading.is));
    }

pub returns : goal.returns
returns c =
    let at = goal.at.returns c in
    record {
      asked = ap accepted (sizes at.In-Some-read_sizes)
          ∙ head_passed _ _ _ _ (short at.Else-text-gt-LONGEST) (first at.In-Some) (of_its_form at.In-Some-read_sizes) _ (asked at.In-Some-read_sizes c.in_default-size_question.ensures.asked) refl
          (sym (third at.After-read_heading-2) ∙ ap is_some c.in-Some-read_heading.is);
    }
