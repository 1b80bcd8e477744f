-- The lines of a written text: each ends with its LF and has no other, so that after the first k lines of a text the next line starts. Assumes nothing.
use mathlib.Core.Path.{◌≡◌, refl, ap, ◌∙◌}
use mathlib.Core.Logic.{inl, inr}
use mathlib.Core.List.{List, [], ◌∷◌, ◌++◌, append_assoc, append-nil}
use Prim.Native.Nat.{ℕ, zero, suc, ◌+◌, ◌<◌}
use native.Mathlib.Omega.{arith}
use Rattle.laws.specs.Below.{fold}
use Rattle.laws.proofs.Counting.{split}
use Rattle.laws.proofs.Folds.{fold_step}
use Rattle.lines.specs.Lines.{lf, line_length, after_line, after_lines}
use Rattle.lines.proofs.Endings.{after_lf, after_byte, after_table}
use Rattle.fields.specs.Decimal.{decimal, field}
use Rattle.fields.specs.Fields.{space}
use Rattle.fields.proofs.Digits.{after_decimal}
use Rattle.text.specs.Forms.{sizes_heading, processes_heading}
use Rattle.text.specs.Written.{each_line, sizes_line, letters_of, process_line}

module _ (rest : List ℕ) where
  -- A line byte by byte: its digits and letters, and what ends each field.
  pub sizes_parts : (n t : ℕ) → sizes_line n t ++ rest ≡ decimal n ++ (space ∷ (decimal t ++ (lf ∷ rest)))
  unfolding sizes_line field
  sizes_parts n t = simp append_assoc

  pub process_parts : (n i vote crash reach : ℕ)
      → process_line n i vote crash reach ++ rest
      ≡ decimal (i + 1) ++ (space ∷ (decimal vote ++ (space ∷ (decimal crash ++ (space ∷ (letters_of n reach ++ (lf ∷ rest)))))))
  unfolding process_line field
  process_parts n i vote crash reach = simp append_assoc

  pub after_sizes_heading : after_line (sizes_heading ++ rest) ≡ rest
  unfolding after_line line_length
  after_sizes_heading = refl

  pub after_processes_heading : after_line (processes_heading ++ rest) ≡ rest
  unfolding after_line line_length
  after_processes_heading = refl

-- a field that does not end the line
after_field : (x : ℕ) (rest : List ℕ) → after_line (decimal x ++ (space ∷ rest)) ≡ after_line rest
after_field x rest = after_decimal x (space ∷ rest) ∙ after_byte rest space (λ e. omega arith)

pub after_sizes : (n t : ℕ) (rest : List ℕ) → after_line (sizes_line n t ++ rest) ≡ rest
after_sizes n t rest = ap after_line (sizes_parts rest n t) ∙ after_field n (decimal t ++ (lf ∷ rest)) ∙ after_decimal t (lf ∷ rest) ∙ after_lf rest

pub after_process : (n i vote crash reach : ℕ) (rest : List ℕ) → after_line (process_line n i vote crash reach ++ rest) ≡ rest
unfolding letters_of
after_process n i vote crash reach rest =
    ap after_line (process_parts rest n i vote crash reach)
    ∙ after_field (i + 1) _
    ∙ after_field vote _
    ∙ after_field crash _
    ∙ after_table n _ (lf ∷ rest) (λ j e. omega arith)
    ∙ after_lf rest

module _ (line : ℕ → List ℕ) where
  -- No lines, and one more, as a loop that writes them in turn comes to it.
  pub no_lines : [] ≡ each_line 0 line
  unfolding each_line fold
  no_lines = refl

  pub one_more_line : (i : ℕ) → each_line i line ++ line i ≡ each_line (i + 1) line
  unfolding each_line
  one_more_line i = fold_step (λ k before. before ++ line k) [] i (each_line i line) _ refl refl

  -- Lines one after the other, each of which is one line.
  pub after_each : ((i : ℕ) (rest : List ℕ) → after_line (line i ++ rest) ≡ rest) → (n : ℕ) (rest : List ℕ) → after_lines n (each_line n line ++ rest) ≡ rest
  unfolding each_line fold after_lines
  after_each one zero rest = refl
  after_each one (suc n) rest =
      ap (λ (text : List ℕ). after_line (after_lines n text)) (append_assoc (each_line n line) (line n) rest)
      ∙ ap after_line (after_each one n (line n ++ rest))
      ∙ one n rest

  -- line i, with those before it and those after it
  pub each_at : (n i : ℕ) → i < n → (after : List ℕ) × (each_line n line ≡ each_line i line ++ (line i ++ after))
  unfolding each_line fold
  each_at zero i l = absurd (omega arith)
  each_at (suc n) i l =
      elim (split n i) [
        | inl a ↦
            let e : i ≡ n = omega arith in
            ([], rw (e, append-nil))
        | inr a ↦
            let others = each_at n i a in (
              others.0 ++ line n,
              ap (λ (text : List ℕ). text ++ line n) others.1
                  ∙ append_assoc (each_line i line) (line i ++ others.0) (line n)
                  ∙ ap (λ (text : List ℕ). each_line i line ++ text) (append_assoc (line i) others.0 (line n)),
            )
      ]
