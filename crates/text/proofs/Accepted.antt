-- What an accepted text and a refused one say of their questions: an accepted text passed each of them, so what it was read as is an accepted
-- schedule; a refused text has the number and the line of one that it did not pass. Assumes nothing.
use mathlib.Core.Path.{◌≡◌, refl, sym, ap, subst, ◌∙◌}
use mathlib.Core.Logic.{inl, inr, ◌≢◌}
use mathlib.Core.List.{List}
use mathlib.Core.Bool.{true}
use Prim.Native.Nat.{ℕ, ◌+◌, ◌-◌, ◌≤◌, ◌<◌}
use native.Mathlib.Omega.{arith}
use borrow.Author.Tests.{eqb-true, eqb-false, eq-eqb, leb-true, le-leb}
use lib.ListN.{length}
use lib.Dec.{leb, eqb}
use Rattle.laws.specs.Answer.{ask, Answer, accepted, refused, and_next, next_each}
use Rattle.laws.proofs.Test.{true_or_false, cond_true, cond_false, within_is, within_low, within_high}
use Rattle.laws.proofs.Lists.{length_tabulate}
use Rattle.laws.proofs.Answer.{passed, refused_is, answer_accepted, answer_refused, not_accepted, and_next_accepted, and_next_passes, and_next_refused, and_next_either, next_each_passed, next_each_passes, next_each_some}
use Rattle.lines.specs.Lines.{after_lines, line_of}
use Rattle.lines.proofs.Endings
use Rattle.fields.specs.Fields.{starts_with}
use Rattle.schedule.specs.Schedule.{Schedule, crash_count}
use Rattle.schedule.specs.Questions.{question, process_question}
use Rattle.schedule.proofs.Accepted.{accepted_question, process_question_rules}
use Rattle.run.specs.Protocol.{fcwfa}
use Rattle.run.proofs.Theorem.{accepted_run}
use Rattle.text.specs.Forms.{sizes_heading, processes_heading, sizes_at, entry_at}
use Rattle.text.specs.Reading.{is_found, on_line, sizes_in, schedule_in, entry_questions, head_questions, tail_questions, rest_questions, text_questions, text_answer}
use Rattle.text.specs.Output.{report_shown, outcome_shown, reasons_shown, printed, output_of}
use Rattle.text.specs.Facts.{PrintsPromises, PrintsOutcome, PrintsReasons}

-- The questions of one line: they come to 0, or the refusal has that line.
pub line_passed : (k q : ℕ) → on_line k q ≡ accepted tt → q ≡ 0
unfolding on_line
line_passed k q e =
    elim (true_or_false (eqb q 0)) [
      | inl z ↦ eqb-true q 0 z
      | inr z ↦ absurd (not_accepted (sym (answer_refused q tt k (eqb-false q 0 z)) ∙ e))
    ]

line_passes : (k q : ℕ) → q ≡ 0 → on_line k q ≡ accepted tt
unfolding on_line
line_passes k q e = answer_accepted q tt k e

line_refuses : (k q number : ℕ) → q ≡ number → 0 < number → on_line k q ≡ refused number k
unfolding on_line
line_refuses k q number e h = answer_refused q tt k (λ z. omega arith) ∙ ap (λ (x : ℕ). refused x k) e

-- the line that a refusal names
abbrev line_named : {A : Type 0} → Answer A ℕ → ℕ
line_named (accepted value) = 0
line_named (refused number k) = k

refused_line : (k q number back : ℕ) → on_line k q ≡ refused number back → (number ≢ 0) × (back ≤ k)
unfolding on_line
refused_line k q number back e =
    let r = refused_is q tt k (sym e) in
    let named : k ≡ back = ap line_named (sym (answer_refused q tt k r.1) ∙ e) in
    (λ z. r.1 (sym r.0 ∙ z), omega arith)

pub line_numbered : (k q number back : ℕ) → on_line k q ≡ refused number back → number ≢ 0
line_numbered k q number back e = (refused_line k q number back e).0

-- Each refusal of an answer has a number other than 0, and its line is at most m.
abbrev Below : {A : Type 0} → ℕ → Answer A ℕ → Type 0
Below m a = (number k : ℕ) → a ≡ refused number k → (number ≢ 0) × (k ≤ m)

module _ {m : ℕ} where
  next_below : {A : Type 0} {p : Answer (Unit {0}) ℕ} {others : Answer A ℕ} → Below m p → Below m others → Below m (and_next p others)
  next_below {p = p} {others = others} a b number k e = elim (and_next_either p others number k e) [ inl h ↦ a number k h | inr h ↦ b number k h ]

  line_below : (k q : ℕ) → k ≤ m → Below m (on_line k q)
  line_below k q h number back e = let r = refused_line k q number back e in let l = r.1 in (r.0, omega arith)

module _ (text : List ℕ) where
  -- What a text is that passed every question.
  pub record Passed (limit most : ℕ) : Type 0 where
    pub short : length text ≤ most
    pub first_heading : starts_with sizes_heading text ≡ true
    pub sizes : is_found (sizes_at (after_lines 1 text)) ≡ true
    pub n_low : 4 ≤ (sizes_in text).n
    pub n_high : (sizes_in text).n ≤ limit
    pub t_low : 3 ≤ (sizes_in text).t
    pub t_high : (sizes_in text).t < (sizes_in text).n
    pub second_heading : starts_with processes_heading (after_lines 2 text) ≡ true
    pub entry : (i : ℕ) → i < (sizes_in text).n → is_found (entry_at (sizes_in text).n i (after_lines (i + 3) text)) ≡ true
    pub rules : (i : ℕ) → i < (sizes_in text).n → process_question (schedule_in text) i ≡ 0
    pub nothing_after : length (after_lines ((sizes_in text).n + 3) text) ≡ 0
    pub few : crash_count (schedule_in text) ≤ (sizes_in text).t

  entry_passed : (i : ℕ) → entry_questions text i ≡ accepted tt
      → (is_found (entry_at (sizes_in text).n i (after_lines (i + 3) text)) ≡ true) × (process_question (schedule_in text) i ≡ 0)
  unfolding entry_questions
  entry_passed i e = passed _ _ _ (omega arith) (line_passed _ _ e)

  entry_passes : (i : ℕ) → is_found (entry_at (sizes_in text).n i (after_lines (i + 3) text)) ≡ true → process_question (schedule_in text) i ≡ 0
      → entry_questions text i ≡ accepted tt
  unfolding entry_questions ask
  entry_passes i right rules = line_passes _ _ (cond_true _ _ _ right ∙ rules)

  entries_below : Below ((sizes_in text).n + 4) (next_each (sizes_in text).n (entry_questions text))
  unfolding entry_questions
  entries_below number k e =
      let some = next_each_some (sizes_in text).n (entry_questions text) number k e in
      let low : some.0 < (sizes_in text).n = some.1 in
      let h = refused_line _ _ number k some.2 in
      omega arith

  module _ (limit most : ℕ) where
    questions_passed : text_questions text limit most ≡ accepted tt → Passed limit most
    unfolding text_questions head_questions rest_questions tail_questions schedule_in
    questions_passed e =
        let parts = and_next_accepted _ _ tt e in
        let a = and_next_accepted _ _ tt parts.0 in
        let b = and_next_accepted _ _ tt a.1 in
        let c = and_next_accepted _ _ tt b.1 in
        let f = and_next_accepted _ _ tt parts.1 in
        let g = and_next_accepted _ _ tt f.1 in
        let long = passed _ _ _ (omega arith) (line_passed _ _ a.0) in
        let first = passed _ _ _ (omega arith) (line_passed _ _ b.0) in
        let sizes = passed _ _ _ (omega arith) (line_passed _ _ c.0) in
        let n = passed _ _ _ (omega arith) sizes.1 in
        let t = passed _ _ _ (omega arith) n.1 in
        let second = passed _ _ _ (omega arith) (line_passed _ _ c.1) in
        let each = next_each_passed _ _ f.0 in
        let after = passed _ _ _ (omega arith) (line_passed _ _ g.0) in
        let crashes = passed _ _ _ (omega arith) (line_passed _ _ g.1) in
        let n_low = within_low _ _ _ n.0 in
        let t_high = within_high _ _ _ t.0 in
        record {
          short = leb-true _ _ long.0;
          first_heading = first.0;
          sizes = sizes.0;
          n_low = n_low;
          n_high = within_high _ _ _ n.0;
          t_low = within_low _ _ _ t.0;
          t_high = omega arith;
          second_heading = second.0;
          entry = λ i l. (entry_passed i (each i l)).0;
          rules = λ i l. (entry_passed i (each i l)).1;
          nothing_after = eqb-true _ _ after.0;
          few = leb-true _ _ crashes.0;
        }

    passes_questions : Passed limit most → text_questions text limit most ≡ accepted tt
    unfolding text_questions head_questions rest_questions tail_questions schedule_in ask
    passes_questions p =
        let n = (sizes_in text).n in
        let n_low = p.n_low in
        let t_high = p.t_high in
        let n-right = within_is 4 n limit n_low p.n_high in
        let t-right = within_is 3 (sizes_in text).t (n - 1) p.t_low (omega arith) in
        and_next_passes _ _
        (and_next_passes _ _ (line_passes _ _ (cond_true _ _ _ (le-leb (length text) most p.short)))
        ∙ and_next_passes _ _ (line_passes _ _ (cond_true _ _ _ p.first_heading))
        ∙ and_next_passes _ _ (line_passes _ _ (cond_true _ _ _ p.sizes ∙ cond_true _ _ _ n-right ∙ cond_true _ _ _ t-right))
        ∙ line_passes _ _ (cond_true _ _ _ p.second_heading))
        ∙ and_next_passes _ _ (next_each_passes n (entry_questions text) (λ i l. entry_passes i (p.entry i l) (p.rules i l)))
        ∙ and_next_passes _ _ (line_passes _ _ (cond_true _ _ _ (eq-eqb _ _ p.nothing_after)))
        ∙ line_passes _ _ (cond_true _ _ _ (le-leb (crash_count (schedule_in text)) (sizes_in text).t p.few))

    -- an accepted text passed, and is read as the schedule that is given
    pub text_passed : (s : Schedule) → text_answer text limit most ≡ accepted s → Passed limit most × (schedule_in text ≡ s)
    unfolding text_answer
    text_passed s e = let both = and_next_accepted _ (accepted (schedule_in text)) s e in (questions_passed both.0, cc both.1)

    pub passes_text : Passed limit most → text_answer text limit most ≡ accepted (schedule_in text)
    unfolding text_answer
    passes_text p = and_next_passes _ _ (passes_questions p)

    passed_question : Passed limit most → question (schedule_in text) limit true ≡ 0
    unfolding schedule_in
    passed_question p =
        accepted_question (schedule_in text) limit true (record {
          n_low = p.n_low;
          n_high = p.n_high;
          votes_long = length_tabulate _ _;
          crashes_long = length_tabulate _ _;
          reaches_long = length_tabulate _ _;
          answers_long = refl;
          rules = record {
            t_low = p.t_low;
            t_high = p.t_high;
            process = λ i l. process_question_rules (schedule_in text) i (p.rules i l);
            few = p.few;
          };
        })

    pub accepted_schedule : (s : Schedule) → text_answer text limit most ≡ accepted s → question s limit true ≡ 0
    accepted_schedule s e =
        let both = text_passed s e in
        subst (λ (x : Schedule). question x limit true ≡ 0) both.1 (passed_question both.0)

    pub prints_promises : (s : Schedule) → text_answer text limit most ≡ accepted s → PrintsPromises s (output_of (report_shown fcwfa) text limit most)
    unfolding output_of
    prints_promises s e = record {
      given = _;
      prints = ap (printed (report_shown fcwfa) text) e;
      promises = (accepted_run s limit true (accepted_schedule s e)).given;
    }

    pub prints_outcome : (s : Schedule) → text_answer text limit most ≡ accepted s → PrintsOutcome s (output_of (outcome_shown fcwfa) text limit most)
    unfolding output_of
    prints_outcome s e = record {
      decision = _;
      round = _;
      prints = ap (printed (outcome_shown fcwfa) text) e;
      promises = (accepted_run s limit true (accepted_schedule s e)).outcome;
    }

    pub prints_reasons : (s : Schedule) → text_answer text limit most ≡ accepted s → PrintsReasons s (output_of reasons_shown text limit most)
    unfolding output_of
    prints_reasons s e = record {
      why = _;
      prints = ap (printed reasons_shown text) e;
      promises = (accepted_run s limit true (accepted_schedule s e)).why;
    }

    -- the refusal is that of one of the questions, and each has a line up to n + 4
    refusals : Below ((sizes_in text).n + 4) (text_answer text limit most)
    unfolding text_answer text_questions head_questions rest_questions tail_questions
    refusals =
        next_below
        (next_below
        (next_below (line_below _ _ (omega arith))
        (next_below (line_below _ _ (omega arith))
        (next_below (line_below _ _ (omega arith))
        (line_below _ _ (omega arith)))))
        (next_below entries_below
        (next_below (line_below _ _ (omega arith))
        (line_below _ _ (omega arith)))))
        (λ number k e. absurd (not_accepted (sym e)))

    pub line_bound : (number k : ℕ) → text_answer text limit most ≡ refused number k → k ≤ (sizes_in text).n + 4
    line_bound number k e = (refusals number k e).1

    pub numbered : (number k : ℕ) → text_answer text limit most ≡ refused number k → number ≢ 0
    numbered number k e = (refusals number k e).0

    -- a text that is too long is refused on line 0
    pub line_short : (number k : ℕ) → text_answer text limit most ≡ refused number k → length (line_of k text) ≤ most
    unfolding text_answer text_questions head_questions ask line_of
    line_short number k e =
        elim (true_or_false (leb (length text) most)) [
          | inl z ↦ let short = leb-true (length text) most z in let part = Endings.line_short k text in omega arith
          | inr z ↦
              let none : 0 ≡ k = ap line_named (sym (and_next_refused _ _ _ _ (and_next_refused _ _ _ _ (and_next_refused _ _ _ _ (line_refuses _ _ _ (cond_false _ _ _ z) (omega arith))))) ∙ e) in
              rw (← none) (omega arith)
        ]
