-- What the numbers of a call tell: no question has the number 0, so 0 is that of an accepted call, and any other that of a refused one. Assumes nothing.
use mathlib.Core.Path.{◌≡◌, sym, ap, ◌∙◌}
use mathlib.Core.Logic.{◌≢◌}
use mathlib.Core.List.{List}
use Prim.Native.Nat.{ℕ}
use lib.ListN.{get_or}
use Rattle.laws.specs.Answer.{Answer, accepted, refused}
use Rattle.laws.proofs.Answer.{answer_accepted, answer_refused, place_given}
use Rattle.sets.specs.Largest.{largest}
use Rattle.text.specs.declared.Sizes.{Sizes}
use Rattle.text.specs.Reading.{longest}
use Rattle.reader.specs.Answers.{read_answer}
use Rattle.reader.proofs.Texts.{read_numbered}
use Rattle.writer.specs.Answers.{write_question, write_answer}
use Rattle.fcwfa_texts.specs.Numbers.{number_of, read_numbers, Told}
use Rattle.fcwfa_texts.proofs.Named.{write_named, read_named}

-- the answer that the three numbers of a reading tell
sizes_told : (a : Answer Sizes ℕ) (lent now : List ℕ) → ((number k : ℕ) → a ≡ refused number k → number ≢ 0) → 0 ≡ number_of a → now ≡ read_numbers a lent
    → accepted (record { n = get_or now 0 0; t = get_or now 1 0 }) ≡ a
sizes_told (accepted sizes) lent now numbered z e = ap (λ (l : List ℕ). accepted (record { n = get_or l 0 0; t = get_or l 1 0 })) e
sizes_told (refused number k) lent now numbered z e = absurd (numbered number k (λ i. refused number k) (sym z))

line_told : (a : Answer Sizes ℕ) (lent now : List ℕ) (number : ℕ) → number ≢ 0 → number ≡ number_of a → now ≡ read_numbers a lent → refused number (get_or now 2 0) ≡ a
line_told (accepted sizes) lent now number some e h = absurd (some e)
line_told (refused m k) lent now number some e h = λ i. refused (e i) (get_or (h i) 2 0)

pub told : Told
unfolding write_answer
told = record {
  was_written = λ s text used text_now used_now h.
      let z = sym h.number_is in
      record { answered = ap accepted (h.used_given ∙ place_given _ _ _ z) ∙ sym (answer_accepted _ _ tt z); text_written = h.text_written };
  not_written = λ s text used number text_now used_now some h.
      let not_zero : write_question largest s text ≢ 0 = λ z. some (h.number_is ∙ z) in
      let named = write_named largest s text not_zero in
      record {
        question = named.question;
        its_number = named.its_number ∙ sym h.number_is;
        refused = record {
          answered = ap (λ (k : ℕ). refused k tt) named.its_number ∙ sym (answer_refused _ _ tt not_zero);
          text_written = h.text_written;
        };
      };
  was_read = λ text votes crashes reaches lent v c m now h.
      record {
        answered = sizes_told (read_answer largest longest text votes crashes reaches) lent now (read_numbered largest longest text votes crashes reaches) h.number_is h.read_given;
        votes_read = h.votes_read;
        crashes_read = h.crashes_read;
        reaches_read = h.reaches_read;
      };
  not_read = λ text votes crashes reaches lent number v c m now some h.
      let told = line_told (read_answer largest longest text votes crashes reaches) lent now number some h.number_is h.read_given in
      let named = read_named text largest longest votes crashes reaches number (get_or now 2 0) (sym told) in
      record {
        question = named.question;
        its_number = named.its_number;
        refused = record {
          answered = ap (λ (k : ℕ). refused k (get_or now 2 0)) named.its_number ∙ told;
          votes_read = h.votes_read;
          crashes_read = h.crashes_read;
          reaches_read = h.reaches_read;
        };
      };
}
