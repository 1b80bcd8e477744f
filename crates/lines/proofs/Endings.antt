-- Where lines end: bytes that are not LF belong to the line that they start, and an LF ends it. What is left after some lines is a part of the
-- text, and so is a line. Assumes nothing.
use mathlib.Core.Path.{◌≡◌, refl, sym, ap, ◌∙◌}
use mathlib.Core.Logic.{◌≢◌}
use mathlib.Core.List.{List, [], ◌∷◌, ◌++◌, append_assoc}
use Prim.Native.Nat.{ℕ, zero, suc, ◌+◌, ◌-◌, ◌≤◌, zero-le}
use native.Mathlib.Nat.{le_refl, zero-add, suc-add}
use native.Mathlib.Omega.{arith}
use borrow.Author.Tests.{ne_eqb}
use lib.ListN.{length, drop, length-take, length-drop}
use Rattle.laws.specs.Below.{tabulate}
use Rattle.lines.specs.Lines.{lf, line_length, after_line, after_lines, line_of}

pub after_short : (k : ℕ) (text : List ℕ) → length (after_lines k text) ≤ length text
unfolding after_lines after_line
after_short zero text = le_refl _
after_short (suc k) text =
    let rest = after_lines k text in
    let h = after_short k text in
    let e = length-drop (line_length rest + 1) rest in
    omega arith

pub line_short : (k : ℕ) (text : List ℕ) → length (line_of k text) ≤ length text
unfolding line_of
line_short zero text = zero-le
line_short (suc k) text =
    let rest = after_lines k text in
    let h = after_short k text in
    let e = length-take (line_length rest) rest in
    omega arith

pub after_more : (k j : ℕ) (text : List ℕ) → after_lines (k + j) text ≡ after_lines k (after_lines j text)
unfolding after_lines
after_more zero j text = ap (λ (m : ℕ). after_lines m text) (zero-add j)
after_more (suc k) j text = ap (λ (m : ℕ). after_lines m text) (suc-add k j) ∙ ap after_line (after_more k j text)

-- after more lines no more is left, so nothing is left once nothing is left
pub after_fewer : (text : List ℕ) (j k : ℕ) → j ≤ k → length (after_lines k text) ≤ length (after_lines j text)
after_fewer text j k h =
    let more : (k - j) + j ≡ k = omega arith in
    let e : after_lines k text ≡ after_lines (k - j) (after_lines j text) = ap (λ (m : ℕ). after_lines m text) (sym more) ∙ after_more (k - j) j text in
    rw e (after_short (k - j) (after_lines j text))

module _ (rest : List ℕ) where
  pub after_lf : after_line (lf ∷ rest) ≡ rest
  unfolding after_line line_length
  after_lf = refl

  pub after_byte : (b : ℕ) → b ≢ lf → after_line (b ∷ rest) ≡ after_line rest
  unfolding after_line line_length
  after_byte b h = rw (ne_eqb b lf h) (ap (λ (k : ℕ). drop k (b ∷ rest)) (suc-add (line_length rest) 1))

-- the bytes of a table
pub after_table : (n : ℕ) (f : ℕ → ℕ) (rest : List ℕ) → ((i : ℕ) → f i ≢ lf) → after_line (tabulate n f ++ rest) ≡ after_line rest
unfolding tabulate
after_table zero f rest h = refl
after_table (suc n) f rest h = ap after_line (append_assoc (tabulate n f) (f n ∷ []) rest) ∙ after_table n f (f n ∷ rest) h ∙ after_byte rest (f n) (h n)
