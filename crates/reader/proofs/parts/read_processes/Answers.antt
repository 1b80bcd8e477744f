-- `read_processes` meets its contract: after i lines their questions are passed, and the tables hold what stands there. Assumes nothing.
use Rattle.std.proofs.Common.{◌≡◌, ℕ, ◌+◌, ◌<◌, ◌≤◌, List, sym, refl, ap, ◌∙◌}
use Rattle.std.specs.Prelude.{Some}
use native.Mathlib.Omega.{arith}
use borrow.Author.Count.{below_more}
use Rattle.sets.specs.Largest.{largest}
use Rattle.laws.specs.Answer.{accepted, refused, next_each}
use Rattle.laws.proofs.Answer.{next_each_passes, next_each_refused}
use Rattle.laws.proofs.Filled.{each_more}
use Rattle.laws.proofs.Refusals.{not_zero}
use Rattle.lines.specs.Lines.{start_of, after_lines}
use Rattle.lines.proofs.Parts.{part_after, lines_more}
use Rattle.schedule.specs.Questions.{entry_question}
use Rattle.text.specs.declared.Sizes.{Sizes}
use Rattle.text.specs.declared.Entry.{Entry}
use Rattle.text.specs.Forms.{entry_at}
use Rattle.text.specs.Reading.{sizes_in, entry_questions}
use Rattle.forms.specs.Answers.{value_of}
use Rattle.forms.proofs.LineForms.{entry_up_to_lem}
use Rattle.reader.proofs.Entries.{line_wrong, entry_is, entry_refused, entry_passed}
use Rattle.reader.proofs.parts.read_processes.Goals as goal
use Rattle.reader.proofs.parts.read_processes.Goals.{After-read_process, In-Some}

-- the line of the process at place i is read from where it starts
entry_read : (d : After-read_process) → let a = d.args in let i = d.loop-i.i in
    d.read_process.result ≡ value_of (entry_at (sizes_in a.text.now).n i (after_lines (i + 3) a.text.now))
entry_read d =
    let a = d.args in
    let i = d.loop-i.i in
    let pre = d.requires in
    d.read_process.ensures.read
    ∙ ap value_of (entry_up_to_lem largest a.sizes.n i d.from.result.now pre.sizes.0)
    ∙ ap (λ (s : Sizes). value_of (entry_at s.n i d.from.result.now)) (sym pre.sizes.1)
    ∙ ap (λ (part : List ℕ). value_of (entry_at (sizes_in a.text.now).n i part)) (part_after a.text.now (i + 3) d.from.ensures.part d.loop-i.invariant.1)

-- the lines before were passed, so the first that is not gives the answer
first_refused : (d : After-read_process) (number : ℕ) → let a = d.args in let i = d.loop-i.i in
    refused number (i + 4) ≡ entry_questions a.text.now i → refused number (i + 4) ≡ next_each a.sizes.n (entry_questions a.text.now)
first_refused d number e =
    let a = d.args in
    let i = d.loop-i.i in
    sym (next_each_refused a.sizes.n (entry_questions a.text.now) i number (i + 4) (omega arith) d.loop-i.invariant.2 (sym e))

pub returns-in_default-clause-asked : goal.returns-in_default-clause-asked
returns-in_default-clause-asked c =
    let at = (goal.at.returns-in_default-clause-asked c).After-read_process in
    rw c.refused_by.ensures.is (first_refused at 9 (line_wrong _ _ (sym c.in_default.is ∙ entry_read at)))

-- the values of the line
entry_values : (c : In-Some) → let a = c.args in let i = c.loop-i.i in Some c.in-Some.entry ≡ value_of (entry_at (sizes_in a.text.now).n i (after_lines (i + 3) a.text.now))
entry_values c = sym c.in-Some.is ∙ entry_read (goal.at.In-Some c).After-read_process

-- its place is one of the n that the text has
place_below : (c : In-Some) → c.loop-i.i < (sizes_in c.args.text.now).n
place_below c =
    let n : (sizes_in c.args.text.now).n ≡ c.args.sizes.n = ap (λ (s : Sizes). s.n) c.requires.sizes.1 in
    omega arith

-- its questions are those of an entry with the sizes of the text
asked : (c : In-Some) {q : ℕ} → let s = c.args.sizes in let e = c.in-Some.entry in let text = c.args.text.now in
    q ≡ entry_question s.n s.t c.loop-i.i e.vote e.crash e.reach → q ≡ entry_question (sizes_in text).n (sizes_in text).t c.loop-i.i e.vote e.crash e.reach
asked c h =
    let e = c.in-Some.entry in
    h ∙ ap (λ (s : Sizes). entry_question s.n s.t c.loop-i.i e.vote e.crash e.reach) (sym c.requires.sizes.1)

pub returns-in-Err-clause-asked : goal.returns-in-Err-clause-asked
returns-in-Err-clause-asked c =
    let at = goal.at.returns-in-Err-clause-asked c in
    let d = at.In-Some in
    rw c.refused_by-in-Err.ensures.is
    (first_refused at.After-read_process _ (entry_refused _ _ c.in-Some.entry (entry_values d) (place_below d) _ (asked d c.in-Err.ensures.asked) (not_zero _)))

pub loop-i-preserved : goal.loop-i-preserved
loop-i-preserved c =
    let d = (goal.at.loop-i-preserved c).In-Some in
    let text = c.args.text.now in
    let i = c.loop-i.i in
    let small : c.args.sizes.n ≤ largest = c.requires.sizes.0 in
    let same = entry_is text i c.in-Some.entry (entry_values d) in
    let next : c.next_line-at.result ≡ start_of text (after_lines (i + 3 + 1) text) = lines_more text (i + 3) c.loop-i.at c.next_line-at.result c.loop-i.invariant.1 c.next_line-at.ensures.next in (
      omega arith,
      next ∙ ap (λ (j : ℕ). start_of text (after_lines j text)) (omega arith),
      below_more (λ j. entry_questions text j ≡ accepted tt) i c.loop-i.invariant.2 (entry_passed text i c.in-Some.entry (entry_values d) (place_below d) 0 (asked d c.in_default-process_question.ensures.asked) refl),
      each_more (omega arith) c.loop-i.invariant.3 (ap (λ (x : Entry). x.vote) same),
      each_more (omega arith) c.loop-i.invariant.4 (ap (λ (x : Entry). x.crash) same),
      each_more (omega arith) c.loop-i.invariant.5 (ap (λ (x : Entry). x.reach) same),
    )

pub returns-clause-asked : goal.returns-clause-asked
returns-clause-asked c =
    sym (next_each_passes c.args.sizes.n (entry_questions c.args.text.now) (λ j below. c.loop-i.invariant.2 j (omega arith)))
