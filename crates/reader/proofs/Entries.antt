-- The questions of one process's line, and the entries of the lines read so far: what stands on a line of its form is what the schedule of the text has at
-- that place, so its questions are those of the schedule's process. Assumes nothing.
use mathlib.Core.Path.{◌≡◌, sym, ap, ◌∙◌}
use mathlib.Core.Logic.{◌≢◌}
use mathlib.Core.List.{List}
use Rattle.std.specs.Prelude.{Some, None}
use Prim.Native.Nat.{ℕ, ◌+◌, ◌<◌}
use borrow.Author.Tests.{eq-eqb, ne_eqb}
use Rattle.laws.specs.Answer.{ask, accepted, refused, answer}
use Rattle.laws.proofs.Lists.{get_d_tabulate}
use Rattle.lines.specs.Lines.{after_lines}
use Rattle.schedule.specs.Questions.{entry_question, process_question}
use Rattle.text.specs.declared.Entry.{Entry}
use Rattle.text.specs.Forms.{entry_at}
use Rattle.text.specs.Reading.{on_line, sizes_in, entry_in, schedule_in, entry_questions}
use Rattle.forms.specs.Answers.{value_of}
use Rattle.forms.proofs.LineForms.{not_found, is_found_lem, found_value}

abbrev no_entry : Entry
no_entry = record { vote = 0; crash = 0; reach = 0 }

module _ (text : List ℕ) (i : ℕ) where
  pub line_wrong : None ≡ value_of (entry_at (sizes_in text).n i (after_lines (i + 3) text)) → refused 9 (i + 4) ≡ entry_questions text i
  unfolding entry_questions on_line answer ask
  line_wrong e = rw (not_found (entry_at (sizes_in text).n i (after_lines (i + 3) text)) e)

  module _ (entry : Entry) (e : Some entry ≡ value_of (entry_at (sizes_in text).n i (after_lines (i + 3) text))) where
    pub entry_is : entry ≡ entry_in text i
    entry_is = found_value no_entry (entry_at (sizes_in text).n i (after_lines (i + 3) text)) e

    module _ (below : i < (sizes_in text).n) (q : ℕ) (asked : q ≡ entry_question (sizes_in text).n (sizes_in text).t i entry.vote entry.crash entry.reach) where
      -- the schedule of the text has these values at this place
      its_question : process_question (schedule_in text) i ≡ q
      unfolding schedule_in
      its_question =
          let n = (sizes_in text).n in
          rw (
            get_d_tabulate n (λ k. (entry_in text k).vote) i 0 below,
            get_d_tabulate n (λ k. (entry_in text k).crash) i 0 below,
            get_d_tabulate n (λ k. (entry_in text k).reach) i 0 below,
          ) (sym (asked ∙ ap (λ (x : Entry). entry_question n (sizes_in text).t i x.vote x.crash x.reach) entry_is))

      pub entry_refused : q ≢ 0 → refused q (i + 4) ≡ entry_questions text i
      unfolding entry_questions on_line answer ask
      entry_refused no-0 = rw (is_found_lem (entry_at (sizes_in text).n i (after_lines (i + 3) text)) e, its_question, ne_eqb q 0 no-0)

      pub entry_passed : q ≡ 0 → entry_questions text i ≡ accepted tt
      unfolding entry_questions on_line answer ask
      entry_passed is-0 = rw (is_found_lem (entry_at (sizes_in text).n i (after_lines (i + 3) text)) e, its_question, eq-eqb q 0 is-0)
