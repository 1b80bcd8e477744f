-- The questions of a text's head in order: those that are passed go on to the next, and the first that is not gives its number and its line. Assumes
-- nothing.
use mathlib.Core.Path.{◌≡◌}
use mathlib.Core.Logic.{◌≢◌}
use mathlib.Core.List.{List}
use mathlib.Core.Bool.{true, false}
use Prim.Native.Nat.{ℕ}
use borrow.Author.Tests.{eq-eqb, ne_eqb}
use lib.ListN.{length}
use lib.Dec.{leb}
use Rattle.laws.specs.Answer.{ask, Answer, refused, answer, and_next}
use Rattle.lines.specs.Lines.{after_lines}
use Rattle.fields.specs.Fields.{starts_with}
use Rattle.member.specs.Opening.{size_questions}
use Rattle.text.specs.declared.Sizes.{Sizes}
use Rattle.text.specs.Forms.{sizes_heading, processes_heading, sizes_at}
use Rattle.text.specs.Reading.{is_found, on_line, sizes_in, head_questions}

module _ (text : List ℕ) (limit most : ℕ) (x : Answer Sizes ℕ) where
  pub head_8 : leb (length text) most ≡ false → refused 8 0 ≡ and_next (head_questions text limit most) x
  unfolding head_questions on_line answer ask and_next
  head_8 h8 = rw h8

  module _ (h8 : leb (length text) most ≡ true) where
    pub head_1 : starts_with sizes_heading text ≡ false → refused 9 1 ≡ and_next (head_questions text limit most) x
    unfolding head_questions on_line answer ask and_next
    head_1 h1 = rw (h8, h1)

    module _ (h1 : starts_with sizes_heading text ≡ true) where
      pub head_2 : is_found (sizes_at (after_lines 1 text)) ≡ false → refused 9 2 ≡ and_next (head_questions text limit most) x
      unfolding head_questions on_line answer ask and_next
      head_2 h2 = rw (h8, h1, h2)

      module _ (h2 : is_found (sizes_at (after_lines 1 text)) ≡ true) (q : ℕ) (sizes : q ≡ size_questions limit (sizes_in text).n (sizes_in text).t 0) where
        pub head_sizes : q ≢ 0 → refused q 2 ≡ and_next (head_questions text limit most) x
        unfolding head_questions on_line answer ask and_next
        head_sizes no-0 = rw (h8, h1, h2, ← sizes, ne_eqb q 0 no-0)

        module _ (is-0 : q ≡ 0) where
          pub head_3 : starts_with processes_heading (after_lines 2 text) ≡ false → refused 9 3 ≡ and_next (head_questions text limit most) x
          unfolding head_questions on_line answer ask and_next
          head_3 h3 = rw (h8, h1, h2, ← sizes, eq-eqb q 0 is-0, h3)

          pub head_passed : starts_with processes_heading (after_lines 2 text) ≡ true → x ≡ and_next (head_questions text limit most) x
          unfolding head_questions on_line answer ask and_next
          head_passed h3 = rw (h8, h1, h2, ← sizes, eq-eqb q 0 is-0, h3)
