-- `read_tail` meets its contract: nothing follows the last line, and question 7 is asked of a table of crash rounds that is n long. Assumes nothing.
use Rattle.std.proofs.Common.{rules, ◌≡◌, ℕ, ◌+◌, ◌-◌, ◌≤◌, List, true, false, ◌∙◌, length}
use native.Mathlib.Omega.{arith}
use borrow.Author.Tests.{eq-eqb, ne_eqb}
use lib.Dec.{leb, eqb}
use lib.ListN.{take}
use lib.Seq.{length-take-le}
use Rattle.laws.specs.Answer.{ask, refused, answer, and_next}
use Rattle.laws.proofs.Refusals.{is_refused, is_accepted}
use Rattle.sets.specs.Largest.{largest}
use Rattle.lines.specs.Lines.{after_lines}
use Rattle.lines.proofs.Endings.{after_short}
use Rattle.schedule.specs.Schedule.{crashes_in}
use Rattle.text.specs.Reading.{on_line, tail_questions}
use Rattle.reader.proofs.parts.read_tail.Goals as goal
use Rattle.reader.proofs.parts.read_tail.Goals.{After-line_start, Else-line_start-text}

module _ (text : List ℕ) (n t : ℕ) (crashes : List ℕ) where
  tail_9 : eqb (length (after_lines (n + 3) text)) 0 ≡ false → refused 9 (n + 4) ≡ tail_questions text n t crashes
  unfolding tail_questions on_line answer ask and_next
  tail_9 h9 = rw h9

  -- nothing follows, so what is left is question 7 of a table that is n long
  tail_7 : length crashes ≡ n → eqb (length (after_lines (n + 3) text)) 0 ≡ true
      → answer (ask (leb (crashes_in (length crashes) crashes) t) 7 0) tt (n + 3) ≡ tail_questions text n t crashes
  unfolding tail_questions on_line answer ask and_next
  tail_7 long h9 = rw (long, h9)

-- where the text after line n + 3 starts tells whether there is any
starts : (c : After-line_start) → let a = c.args in
    (length (after_lines (a.sizes.n + 3) a.text.now) ≤ length a.text.now) × (c.line_start.result ≡ length a.text.now - length (after_lines (a.sizes.n + 3) a.text.now))
starts c = let a = c.args in (after_short (a.sizes.n + 3) a.text.now, c.line_start.ensures.start)

pub returns-then-line_start-text : goal.returns-then-line_start-text
returns-then-line_start-text c =
    record {
      asked = let a = c.args in
          let s = starts (goal.at.returns-then-line_start-text c).After-line_start in
          rw c.refused_by.ensures.is (tail_9 _ _ _ _ (ne_eqb (length (after_lines (a.sizes.n + 3) a.text.now)) 0 (λ e. omega arith)));
    }

-- nothing follows line n + 3
left : (c : Else-line_start-text) → let a = c.args in let crashes = take a.sizes.n a.entries.now.crashes in
    length a.entries.now.crashes ≡ largest → answer (ask (leb (crashes_in (length crashes) crashes) a.sizes.t) 7 0) tt (a.sizes.n + 3) ≡ tail_questions a.text.now a.sizes.n a.sizes.t crashes
left c long =
    let a = c.args in
    let small = c.requires.size in
    let s = starts (goal.at.Else-line_start-text c).After-line_start in
    tail_7 _ _ _ _ (length-take-le _ _ (omega arith)) (eq-eqb (length (after_lines (a.sizes.n + 3) a.text.now)) 0 (omega arith))

pub returns-in-Err : goal.returns-in-Err
returns-in-Err c =
    record { asked = rw c.refused_by-in-Err.ensures.is (is_refused _ _ _ _ c.in-Err.ensures.asked ∙ left (goal.at.returns-in-Err c).Else-line_start-text (search rules)) }

pub returns : goal.returns
returns c =
    record { asked = is_accepted _ _ _ c.in_default.ensures.asked ∙ left (goal.at.returns c).Else-line_start-text (search rules) }
