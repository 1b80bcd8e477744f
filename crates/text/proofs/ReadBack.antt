-- The text of an accepted schedule is read as that schedule: each of its lines stands after those before it, and has what is written there. Assumes nothing.
use mathlib.Core.Path.{◌≡◌, refl, sym, ap, ◌∙◌}
use mathlib.Core.List.{List, [], ◌++◌, append-nil}
use mathlib.Core.Bool.{true}
use Prim.Native.Nat.{ℕ, ◌+◌, ◌≤◌, ◌<◌}
use native.Mathlib.Omega.{arith}
use lib.ListN.{length, get_or}
use Rattle.laws.specs.Below.{tabulate}
use Rattle.laws.specs.Answer.{accepted}
use Rattle.laws.proofs.Filled.{filled_list}
use Rattle.lines.specs.Lines.{after_line, after_lines}
use Rattle.lines.proofs.Endings.{after_more}
use Rattle.fields.specs.Found.{found}
use Rattle.fields.specs.Fields.{starts_with}
use Rattle.fields.proofs.Written.{starts}
use Rattle.schedule.specs.Schedule.{Schedule, schedule_of, vote_of, crash_of, reach_of, crash_count}
use Rattle.schedule.specs.Questions.{question, process_question, Accepted}
use Rattle.schedule.proofs.Accepted.{question_accepted, process_rules_question}
use Rattle.text.specs.declared.Sizes.{Sizes}
use Rattle.text.specs.declared.Entry.{Entry}
use Rattle.text.specs.Forms.{sizes_heading, processes_heading, sizes_at, entry_at}
use Rattle.text.specs.Written.{each_line, sizes_line, process_line, process_lines, text_of}
use Rattle.text.specs.Reading.{is_found, value_or, sizes_in, entry_in, schedule_in, text_answer}
use Rattle.text.proofs.Accepted.{Passed, passes_text}
use Rattle.text.proofs.Lines.{after_sizes_heading, after_processes_heading, after_sizes, after_process, after_each, each_at}
use Rattle.text.proofs.Forms.{sizes_reads, entry_reads}

module _ (s : Schedule) where
  abbrev sizes_of : Sizes
  sizes_of = record { n = s.n; t = s.t }

  -- the entry of the process at place i, and its line
  abbrev entry_of : ℕ → Entry
  entry_of i = record { vote = vote_of s i; crash = crash_of s i; reach = reach_of s i }

  abbrev line_for : ℕ → List ℕ
  line_for i = process_line s.n i (vote_of s i) (crash_of s i) (reach_of s i)

  -- What stands after each of the first three lines, and at line 4 + i.
  after_1 : after_lines 1 (text_of s) ≡ sizes_line s.n s.t ++ (processes_heading ++ each_line s.n line_for)
  unfolding process_lines text_of after_lines
  after_1 = after_sizes_heading _

  after_2 : after_lines 2 (text_of s) ≡ processes_heading ++ each_line s.n line_for
  unfolding after_lines
  after_2 = ap after_line after_1 ∙ after_sizes s.n s.t _

  after_3 : after_lines 3 (text_of s) ≡ each_line s.n line_for
  unfolding after_lines
  after_3 = ap after_line after_2 ∙ after_processes_heading _

  after_first : (i : ℕ) (rest : List ℕ) → each_line s.n line_for ≡ each_line i line_for ++ rest → after_lines (i + 3) (text_of s) ≡ rest
  after_first i rest e =
      after_more i 3 (text_of s)
      ∙ ap (after_lines i) (after_3 ∙ e)
      ∙ after_each line_for (λ i. after_process s.n i (vote_of s i) (crash_of s i) (reach_of s i)) i rest

  nothing_left : after_lines (s.n + 3) (text_of s) ≡ []
  nothing_left = after_first s.n [] (sym (append-nil (each_line s.n line_for)))

  starts_right : starts_with sizes_heading (text_of s) ≡ true
  unfolding text_of
  starts_right = starts sizes_heading _

  module _ (limit : ℕ) (high : limit ≤ 99) (ok : Accepted s limit true) where
    sizes_found : sizes_at (after_lines 1 (text_of s)) ≡ found sizes_of (processes_heading ++ each_line s.n line_for)
    sizes_found =
        let n_high = ok.n_high in
        let t_high = ok.rules.t_high in
        ap sizes_at after_1 ∙ sizes_reads s.n s.t _ (omega arith) (omega arith)

    sizes_read : sizes_in (text_of s) ≡ sizes_of
    sizes_read = ap (value_or (record { n = 0; t = 0 })) sizes_found

    entry_found : (i : ℕ) → i < s.n
        → (rest : List ℕ) × (entry_at s.n i (after_lines (i + 3) (text_of s)) ≡ found (entry_of i) rest)
    entry_found i l =
        let at = each_at line_for s.n i l in
        let n_high = ok.n_high in
        let t_high = ok.rules.t_high in
        let rules = ok.rules.process i l in
        let vote = rules.vote in
        let crash = rules.crash in (
          at.0,
          ap (entry_at s.n i) (after_first i (line_for i ++ at.0) at.1)
              ∙ entry_reads s.n i (vote_of s i) (crash_of s i) (reach_of s i) at.0 (omega arith) (omega arith) (omega arith) rules.reach,
        )

    entry_read : (i : ℕ) → i < s.n → entry_in (text_of s) i ≡ entry_of i
    entry_read i l =
        let none : Entry = record { vote = 0; crash = 0; reach = 0 } in
        ap (λ (z : Sizes). value_or none (entry_at z.n i (after_lines (i + 3) (text_of s)))) sizes_read ∙ ap (value_or none) (entry_found i l).1

    -- a table is read as it is, where each of its places is what f takes of an entry
    table_read : (f : Entry → ℕ) (table : List ℕ) → length table ≡ s.n → ((i : ℕ) → get_or table i 0 ≡ f (entry_of i)) → tabulate s.n (λ i. f (entry_in (text_of s) i)) ≡ table
    table_read f table long at = sym (filled_list {d = 0} long (record { long = long; at = λ i l. at i ∙ ap f (sym (entry_read i l)) }))

    schedule_read_lem : schedule_in (text_of s) ≡ s
    unfolding schedule_in
    schedule_read_lem =
        ap
        (λ (z : Sizes).
        schedule_of z.n z.t
        (tabulate z.n (λ i. (entry_in (text_of s) i).vote))
        (tabulate z.n (λ i. (entry_in (text_of s) i).crash))
        (tabulate z.n (λ i. (entry_in (text_of s) i).reach)))
        sizes_read
        ∙ λ k.
        schedule_of s.n s.t
        (table_read (λ e. e.vote) s.votes ok.votes_long (λ i. refl) k)
        (table_read (λ e. e.crash) s.crashes ok.crashes_long (λ i. refl) k)
        (table_read (λ e. e.reach) s.reaches ok.reaches_long (λ i. refl) k)

    text_passes : (most : ℕ) → length (text_of s) ≤ most → Passed (text_of s) limit most
    text_passes most short =
        let n-read : (sizes_in (text_of s)).n ≡ s.n = ap (λ (z : Sizes). z.n) sizes_read in
        let t-read : (sizes_in (text_of s)).t ≡ s.t = ap (λ (z : Sizes). z.t) sizes_read in
        let n_low = ok.n_low in
        let n_high = ok.n_high in
        let t_low = ok.rules.t_low in
        let t_high = ok.rules.t_high in
        let few : crash_count s ≤ s.t = ok.rules.few in
        record {
          short = short;
          first_heading = starts_right;
          sizes = ap is_found sizes_found;
          n_low = omega arith;
          n_high = omega arith;
          t_low = omega arith;
          t_high = omega arith;
          second_heading = ap (starts_with processes_heading) after_2 ∙ starts processes_heading _;
          entry = λ i l.
              ap (λ (n : ℕ). is_found (entry_at n i (after_lines (i + 3) (text_of s)))) n-read ∙ ap is_found (entry_found i (omega arith)).1;
          rules = λ i l. ap (λ (x : Schedule). process_question x i) schedule_read_lem ∙ process_rules_question s i (ok.rules.process i (omega arith));
          nothing_after = ap (λ (n : ℕ). length (after_lines (n + 3) (text_of s))) n-read ∙ ap length nothing_left;
          few = rw (schedule_read_lem, t-read) few;
        }

pub reads_back : (limit most : ℕ) → limit ≤ 99 → (s : Schedule) → question s limit true ≡ 0 → length (text_of s) ≤ most → text_answer (text_of s) limit most ≡ accepted s
reads_back limit most high s e short =
    let ok = question_accepted s limit true e in
    passes_text (text_of s) limit most (text_passes s limit high ok most short) ∙ ap accepted (schedule_read_lem s limit high ok)
