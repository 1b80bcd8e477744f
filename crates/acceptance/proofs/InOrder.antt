-- What the questions of a schedule come to, by the first whose answer is no. Assumes nothing.
use mathlib.Core.Path.{◌≡◌, sym, ap, ◌∙◌}
use mathlib.Core.Logic.{◌≢◌}
use mathlib.Core.Bool.{Bool, true, false, ◌&&◌}
use Prim.Native.Nat.{ℕ}
use borrow.Author.Tests.{eq-eqb, ne_eqb}
use lib.Dec.{leb}
use Rattle.laws.specs.Answer.{ask, and_then, ask_each}
use Rattle.member.specs.Opening.{size_questions}
use Rattle.member.proofs.Sizes.{sizes_first}
use Rattle.schedule.specs.Schedule.{Schedule, crash_count}
use Rattle.schedule.specs.Questions.{tables_long, process_question, question}

module _ (s : Schedule) (limit : ℕ) (answers : Bool) (q : ℕ) (sizes : q ≡ size_questions limit s.n s.t 0) where
  -- the questions after 1 and 2
  abbrev others : ℕ
  others = ask (tables_long s && answers) 3 (and_then (ask_each s.n (process_question s)) (ask (leb (crash_count s) s.t) 7 0))

  asked : question s limit answers ≡ and_then q others
  unfolding question
  asked = sizes_first limit s.n s.t others ∙ ap (λ (x : ℕ). and_then x others) (sym sizes)

  pub number_of_sizes : q ≢ 0 → q ≡ question s limit answers
  unfolding and_then
  number_of_sizes h = rw (asked, ne_eqb q 0 h)

  module _ (h : q ≡ 0) where
    pub number_3 : tables_long s && answers ≡ false → 3 ≡ question s limit answers
    unfolding ask and_then
    number_3 h3 = rw (asked, eq-eqb q 0 h, h3)

    module _ (h3 : tables_long s && answers ≡ true) (p : ℕ) (processes : p ≡ ask_each s.n (process_question s)) where
      pub number_of_process : p ≢ 0 → p ≡ question s limit answers
      unfolding ask and_then
      number_of_process no-0 = rw (asked, eq-eqb q 0 h, h3, ← processes, ne_eqb p 0 no-0)

      pub past_processes : p ≡ 0 → question s limit answers ≡ ask (leb (crash_count s) s.t) 7 0
      unfolding ask and_then
      past_processes is-0 = rw (asked, eq-eqb q 0 h, h3, ← processes, eq-eqb p 0 is-0)
