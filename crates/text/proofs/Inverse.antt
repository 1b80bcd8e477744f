-- An accepted text is the text of the schedule that it is read as: each line that was read is the line that is written for what was read, the next one
-- starts where it ends, and nothing stands after the last. Assumes nothing.
use mathlib.Core.Path.{◌≡◌, refl, sym, ap, ap₂, ◌∙◌}
use mathlib.Core.List.{List, ◌++◌, append_assoc, append-nil}
use mathlib.Core.Bool.{true, false≢true}
use Prim.Native.Nat.{ℕ, zero, suc, ◌+◌, ◌≤◌, ◌<◌}
use native.Mathlib.Nat.{suc-add, le_refl}
use native.Mathlib.Omega.{arith}
use lib.ListN.{drop_of_length-le}
use Rattle.laws.specs.Below.{fold}
use Rattle.laws.specs.Answer.{accepted}
use Rattle.laws.proofs.Lists.{get_d_tabulate}
use Rattle.lines.specs.Lines.{after_line, after_lines}
use Rattle.fields.specs.Found.{Found, found, wrong}
use Rattle.fields.proofs.Written.{started}
use Rattle.schedule.specs.Schedule.{Schedule, vote_of, crash_of, reach_of}
use Rattle.text.specs.Forms.{sizes_heading, processes_heading, sizes_at, entry_at}
use Rattle.text.specs.Written.{each_line, sizes_line, process_line, process_lines, text_of}
use Rattle.text.specs.Reading.{is_found, value_or, sizes_in, entry_in, schedule_in, text_answer}
use Rattle.text.proofs.Accepted.{Passed, text_passed}
use Rattle.text.proofs.Lines.{after_sizes_heading, after_processes_heading, after_sizes, after_process}
use Rattle.text.proofs.Forms.{sizes_written, entry_written}

-- what was found is what stands for it, whatever would stand for nothing
found_value : {A : Type 0} (x : A) (f : Found A) → is_found f ≡ true → (rest : List ℕ) × (f ≡ found (value_or x f) rest)
found_value x (found value rest) e = (rest, refl)
found_value x wrong e = absurd (false≢true e)

module _ (text : List ℕ) where
  -- a line that was read after the first k lines, and the text that is left after it
  line_after : (k : ℕ) (line rest : List ℕ) → after_lines k text ≡ line ++ rest → after_line (line ++ rest) ≡ rest → after_lines k text ≡ line ++ after_lines (suc k) text
  unfolding after_lines
  line_after k line rest e after = e ∙ ap (λ (l : List ℕ). line ++ l) (sym (ap after_line e ∙ after))

  module _ (limit most : ℕ) (p : Passed text limit most) where
    first_line : text ≡ sizes_heading ++ after_lines 1 text
    unfolding after_lines
    first_line = line_after 0 sizes_heading _ (started sizes_heading text p.first_heading) (after_sizes_heading _)

    second_line : after_lines 1 text ≡ sizes_line (sizes_in text).n (sizes_in text).t ++ after_lines 2 text
    second_line =
        let f = found_value (record { n = 0; t = 0 }) (sizes_at (after_lines 1 text)) p.sizes in
        line_after 1 (sizes_line (sizes_in text).n (sizes_in text).t) f.0 (sizes_written (after_lines 1 text) (sizes_in text) f.0 f.1)
        (after_sizes (sizes_in text).n (sizes_in text).t f.0)

    third_line : after_lines 2 text ≡ processes_heading ++ after_lines 3 text
    third_line = line_after 2 processes_heading _ (started processes_heading (after_lines 2 text) p.second_heading) (after_processes_heading _)

    abbrev line_for : ℕ → List ℕ
    line_for i = process_line (sizes_in text).n i (vote_of (schedule_in text) i) (crash_of (schedule_in text) i) (reach_of (schedule_in text) i)

    line_read : (i : ℕ) → i < (sizes_in text).n → process_line (sizes_in text).n i (entry_in text i).vote (entry_in text i).crash (entry_in text i).reach ≡ line_for i
    unfolding schedule_in
    line_read i l =
        let vote : vote_of (schedule_in text) i ≡ (entry_in text i).vote = get_d_tabulate _ _ i 0 l in
        let crash : crash_of (schedule_in text) i ≡ (entry_in text i).crash = get_d_tabulate _ _ i 0 l in
        let reach : reach_of (schedule_in text) i ≡ (entry_in text i).reach = get_d_tabulate _ _ i 0 l in
        cc

    process_line_lem : (i : ℕ) → i < (sizes_in text).n → after_lines (i + 3) text ≡ line_for i ++ after_lines (suc i + 3) text
    process_line_lem i l =
        let n = (sizes_in text).n in
        let z = entry_in text i in
        let f = found_value (record { vote = 0; crash = 0; reach = 0 }) (entry_at n i (after_lines (i + 3) text)) (p.entry i l) in
        line_after (i + 3) (process_line n i z.vote z.crash z.reach) f.0 (entry_written n i (after_lines (i + 3) text) z f.0 f.1)
        (after_process n i z.vote z.crash z.reach f.0)
        ∙ ap₂ (λ (line : List ℕ) (k : ℕ). line ++ after_lines k text) (line_read i l) (sym (suc-add i 3))

    process_lines_lem : (k : ℕ) → k ≤ (sizes_in text).n → after_lines 3 text ≡ each_line k line_for ++ after_lines (k + 3) text
    unfolding each_line fold
    process_lines_lem zero h = refl
    process_lines_lem (suc k) h =
        process_lines_lem k (omega arith)
        ∙ ap (λ (l : List ℕ). each_line k line_for ++ l) (process_line_lem k h)
        ∙ sym (append_assoc (each_line k line_for) (line_for k) (after_lines (suc k + 3) text))

    text_is : text ≡ text_of (schedule_in text)
    unfolding process_lines text_of schedule_in
    text_is =
        let n = (sizes_in text).n in
        let nothing = p.nothing_after in
        first_line
        ∙ ap (λ (l : List ℕ). sizes_heading ++ l)
        (second_line
        ∙ ap (λ (l : List ℕ). sizes_line n (sizes_in text).t ++ l)
        (third_line
        ∙ ap (λ (l : List ℕ). processes_heading ++ l)
        (process_lines_lem n (le_refl n)
        ∙ ap (λ (l : List ℕ). each_line n line_for ++ l) (drop_of_length-le (after_lines (n + 3) text) {i = 0} (omega arith))
        ∙ append-nil (each_line n line_for))))

pub written : (limit most : ℕ) (text : List ℕ) (s : Schedule) → text_answer text limit most ≡ accepted s → text ≡ text_of s
written limit most text s e = let both = text_passed text limit most s e in text_is text limit most both.0 ∙ ap text_of both.1
