-- Parts of a text: what is left from a place on, past a line or past k lines is the text from one place on, so that place tells it. And the
-- first line of a part ends at its first LF. Assumes nothing.
use mathlib.Core.Path.{◌≡◌, refl, sym, ap, ◌∙◌}
use mathlib.Core.Logic.{inl, inr}
use mathlib.Core.List.{List, []}
use Prim.Native.Nat.{ℕ, zero, suc, ◌+◌, ◌-◌}
use native.Mathlib.Omega.{arith}
use native.Mathlib.Numerals.{add-one, one-add}
use borrow.Author.Tests.{lt-ltb, le-ltb}
use lib.ListN.{length, take, drop, length-drop, drop_of_length-le}
use lib.Seq.{drop-drop, take_all}
use lib.Dec.{eqb}
use Rattle.std.specs.List.{position}
use Rattle.std.specs.Option.{unwrap_or}
use Rattle.std.specs.Prelude.{Option}
use Rattle.std.proofs.lemmas.List.Recursion.{is_position_or_len}
use Rattle.std.proofs.lemmas.List.Sums.{prefix_len-le-length}
use mathlib.Core.Bool.{not}
use Rattle.laws.proofs.Counting.{split}
use Rattle.lines.specs.Lines.{lf, line_length, after_line, after_lines, start_of, line_of}

-- the form in which code has the part from a place on
pub rest_part : (text : List ℕ) (at : ℕ) → take (length text - at) (drop at text) ≡ drop at text
rest_part text at = take_all (length text - at) (drop at text) (omega (arith, length-drop at text))

-- the first line ends at the first LF, and where there is none, with the text
pub first_line : (text : List ℕ) (at : Option ℕ) → at ≡ position (λ b. eqb b lf) text → unwrap_or at (length text) ≡ line_length text
unfolding line_length
first_line text at e =
    let same = is_position_or_len line_length (λ b. eqb b lf) refl (λ b bs. rw one-add) text in
    let short = prefix_len-le-length (λ b. not (eqb b lf)) text in
    rw e (elim (split (length text) (line_length text)) [
      | inl a ↦ rw (← same, le-ltb (line_length text) (length text) a) (omega arith)
      | inr a ↦ rw (← same, lt-ltb (line_length text) (length text) a)
    ])

-- a part that starts at a place is the text from its start on, also where the place is past the end
pub drop_start : (text : List ℕ) (at : ℕ) → drop (start_of text (drop at text)) text ≡ drop at text
drop_start text at =
    elim (split at (length text)) [
      | inl a ↦ ap (λ (k : ℕ). drop k text) {x = start_of text (drop at text)} {y = at} (omega (arith, length-drop at text))
      | inr a ↦ drop_of_length-le text {i = start_of text (drop at text)} (omega (arith, length-drop at text)) ∙ sym (drop_of_length-le text {i = at} (omega arith))
    ]

module _ (text : List ℕ) (at : ℕ) where
  -- past a line: the text from the place after its LF on
  after_line_drop : after_line (drop at text) ≡ drop (at + (line_length (drop at text) + 1)) text
  unfolding after_line
  after_line_drop = drop-drop (line_length (drop at text) + 1) at text

  pub next_drop : drop (start_of text (after_line (drop at text))) text ≡ after_line (drop at text)
  next_drop = rw after_line_drop (drop_start text (at + (line_length (drop at text) + 1)))

  -- where that is: past the LF, or the text's end
  pub next_start : start_of text (after_line (drop at text)) ≡ length text - (length text - (at + (line_length (drop at text) + 1)))
  next_start = ap (λ (n : ℕ). length text - n) (ap length after_line_drop ∙ length-drop (at + (line_length (drop at text) + 1)) text)

-- past k lines
pub lines_drop : (k : ℕ) (text : List ℕ) → drop (start_of text (after_lines k text)) text ≡ after_lines k text
unfolding after_lines
lines_drop zero text = ap (λ (k : ℕ). drop k text) {x = start_of text text} {y = 0} (omega arith)
lines_drop (suc k) text = let at = start_of text (after_lines k text) in let e : drop at text ≡ after_lines k text = lines_drop k text in rw e at (next_drop text at)

-- a part that starts where k lines have ended is what is left after them
pub part_after : (text : List ℕ) (k : ℕ) {part : List ℕ} {at : ℕ} → part ≡ drop at text → at ≡ start_of text (after_lines k text) → part ≡ after_lines k text
part_after text k e h = e ∙ ap (λ (j : ℕ). drop j text) h ∙ lines_drop k text

-- one line more, and line k by its first and its last place
module _ (text : List ℕ) where
  pub lines_more : (k at next : ℕ) → at ≡ start_of text (after_lines k text) → next ≡ start_of text (after_line (drop at text)) → next ≡ start_of text (after_lines (k + 1) text)
  unfolding after_lines
  lines_more k at next a e = rw (add-one k, e, a, lines_drop k text)

  pub line_none : (k : ℕ) → k ≡ 0 → [] ≡ line_of k text
  unfolding line_of
  line_none k e = rw e

  pub line_part : (k start end : ℕ) → (k ≡ 0 → ⊥) → start ≡ start_of text (after_lines (k - 1) text) → end ≡ start + line_length (drop start text) → take (end - start) (drop start text) ≡ line_of k text
  unfolding line_of
  line_part zero start end h s e = absurd (h refl)
  line_part (suc k) start end h s e =
      let one_less : suc k - 1 ≡ k = omega arith in
      let from_start : drop start text ≡ after_lines k text = ap (λ (n : ℕ). drop n text) (rw one_less at s) ∙ lines_drop k text in
      let long : end - start ≡ line_length (drop start text) = omega arith in
      rw (long, from_start)
