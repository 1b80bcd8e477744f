-- What the reader's answer says of the text: where it gives n and t, the text is accepted and the first n entries of the tables are its schedule; where it
-- refuses tables of their size, so is the text refused. And an accepted text is read into tables of their size. Assumes nothing.
use mathlib.Core.Path.{◌≡◌, sym, ap, ◌∙◌}
use mathlib.Core.Logic.{inl, inr, ◌≢◌}
use mathlib.Core.List.{List, ◌++◌}
use mathlib.Core.Bool.{true}
use Prim.Native.Nat.{ℕ}
use lib.ListN.{length, take, drop}
use lib.Seq.{take_at}
use Rattle.laws.specs.Below.{tabulate}
use Rattle.laws.specs.Answer.{Answer, accepted, refused}
use Rattle.laws.proofs.Answer.{value_or, not_accepted, and_next_passes, and_next_refused, and_next_accepted, and_next_either}
use Rattle.laws.proofs.Lists.{length_tabulate}
use Rattle.schedule.specs.Schedule.{Schedule, schedule_of}
use Rattle.schedule.specs.Questions.{tables_of}
use Rattle.text.specs.declared.Sizes.{Sizes}
use Rattle.text.specs.Reading.{sizes_in, schedule_in, text_questions, text_answer}
use Rattle.text.proofs.Accepted.{line_numbered, numbered}
use Rattle.reader.specs.Answers.{given_or, filled, read_questions, read_answer, table_after, votes_after, crashes_after, reaches_after}
use Rattle.reader.proofs.Whole.{asked, asked_text, read_accepted}

same_schedule : {n t n' t' : ℕ} {v c m v' c' m' : List ℕ} → n ≡ n' → t ≡ t' → v ≡ v' → c ≡ c' → m ≡ m' → schedule_of n t v c m ≡ schedule_of n' t' v' c' m'
same_schedule en et ev ec em = λ i. record { n = en i; t = et i; votes = ev i; crashes = ec i; reaches = em i }

module _ (limit most : ℕ) (text votes crashes reaches : List ℕ) where
  abbrev questions : Answer (Unit {0}) ℕ
  questions = asked text limit most votes crashes reaches

  -- n and t are answered
  module _ {n t : ℕ} (e : accepted (record { n = n; t = t }) ≡ read_answer limit most text votes crashes reaches) where
    both : (questions ≡ accepted tt) × ◌≡◌ {A = Answer Sizes ℕ} (accepted (sizes_in text)) (accepted (record { n = n; t = t }))
    unfolding read_answer
    both = and_next_accepted questions (accepted (sizes_in text)) (record { n = n; t = t }) (sym e)

    sizes : sizes_in text ≡ record { n = n; t = t }
    sizes = ap (value_or (record { n = 0; t = 0 })) both.1

    pub text_accepted : text_answer text limit most ≡ accepted (schedule_in text)
    unfolding read_questions text_answer
    text_accepted = and_next_passes _ _ (and_next_accepted _ (text_questions text limit most) tt both.0).1

    -- a table of the schedule stands at the front of the table after the call
    front : (read lent after : List ℕ) → length read ≡ n → after ≡ table_after limit most text votes crashes reaches read lent → take n after ≡ read
    unfolding table_after
    front read lent after long h = ap (take n) (h ∙ ap (λ (q : Answer (Unit {0}) ℕ). given_or q (filled read lent) lent) both.0) ∙ take_at read _ n long

    same_n : (f : ℕ → ℕ) → length (tabulate (sizes_in text).n f) ≡ n
    same_n f = length_tabulate (sizes_in text).n f ∙ ap (λ (s : Sizes). s.n) sizes

    pub its_n : (schedule_in text).n ≡ n
    unfolding schedule_in
    its_n = ap (λ (s : Sizes). s.n) sizes

    pub schedule_read_lem : (v c m : List ℕ) → v ≡ votes_after limit most text votes crashes reaches → c ≡ crashes_after limit most text votes crashes reaches
        → m ≡ reaches_after limit most text votes crashes reaches → schedule_of n t (take n v) (take n c) (take n m) ≡ schedule_in text
    unfolding schedule_in
    schedule_read_lem v c m hv hc hm =
        let fv = front _ _ v (same_n _) hv in
        let fc = front _ _ c (same_n _) hc in
        let fm = front _ _ m (same_n _) hm in
        same_schedule (sym (ap (λ (s : Sizes). s.n) sizes)) (sym (ap (λ (s : Sizes). s.t) sizes)) fv fc fm

  -- a refusal has a number other than 0
  pub read_numbered : (number k : ℕ) → read_answer limit most text votes crashes reaches ≡ refused number k → number ≢ 0
  unfolding read_answer read_questions text_answer
  read_numbered number k e =
      elim (and_next_either questions (accepted (sizes_in text)) number k e) [
        | inl h ↦
            elim (and_next_either _ (text_questions text limit most) number k h) [
              | inl tables ↦ line_numbered 0 _ number k tables
              | inr asks ↦ numbered text limit most number k (and_next_refused _ _ number k asks)
            ]
        | inr h ↦ absurd (not_accepted (sym h))
      ]

  -- The tables are of their size.
  module _ (sized : tables_of limit (length votes) (length crashes) (length reaches) ≡ true) where
    abbrev text_asked : questions ≡ text_questions text limit most
    text_asked = asked_text text limit most votes crashes reaches sized

    pub text_refused : {number k : ℕ} → refused number k ≡ read_answer limit most text votes crashes reaches → text_answer text limit most ≡ refused number k
    unfolding read_answer text_answer
    text_refused {number} {k} e =
        elim (and_next_either questions (accepted (sizes_in text)) number k (sym e)) [
          | inl h ↦ and_next_refused _ _ number k (sym text_asked ∙ h)
          | inr h ↦ absurd (not_accepted (sym h))
        ]

    module _ {s : Schedule} (e : text_answer text limit most ≡ accepted s) where
      parts : (text_questions text limit most ≡ accepted tt) × ◌≡◌ {A = Answer Schedule ℕ} (accepted (schedule_in text)) (accepted s)
      unfolding text_answer
      parts = and_next_accepted (text_questions text limit most) (accepted (schedule_in text)) s e

      pub its_schedule : schedule_in text ≡ s
      its_schedule = ap (value_or s) parts.1

      pub sizes_answered : read_answer limit most text votes crashes reaches ≡ accepted (record { n = s.n; t = s.t })
      unfolding schedule_in
      sizes_answered =
          sym (read_accepted text limit most votes crashes reaches (text_asked ∙ parts.0))
          ∙ ap (λ (x : Schedule). accepted (record { n = x.n; t = x.t })) its_schedule

      -- each table gets what f takes of the schedule
      pub table_filled : (f : Schedule → List ℕ) (lent : List ℕ) → table_after limit most text votes crashes reaches (f (schedule_in text)) lent ≡ f s ++ drop (length (f s)) lent
      unfolding table_after
      table_filled f lent =
          ap (λ (q : Answer (Unit {0}) ℕ). given_or q (filled (f (schedule_in text)) lent) lent) (text_asked ∙ parts.0)
          ∙ ap (λ (x : Schedule). filled (f x) lent) its_schedule
