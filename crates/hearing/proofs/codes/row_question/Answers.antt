-- `row_question` meets its contract: each question that is passed goes on to the next. Assumes nothing.
use mathlib.Core.Path.{◌≡◌}
use mathlib.Core.Bool.{not}
use borrow.Author.Tests.{eq-eqb, ne_eqb}
use Rattle.laws.specs.Answer.{ask}
use Rattle.member.specs.declared.Member.{Member}
use Rattle.member.specs.Saying.{says}
use Rattle.member.specs.Hearing.{told_both}
use Rattle.member.specs.Questions.{row_question}
use Rattle.hearing.proofs.codes.row_question.Goals as goal
use Rattle.hearing.proofs.codes.row_question.Goals.{After-is_told_both}

pub returns-then-k-ne0 : goal.returns-then-k-ne0
unfolding row_question ask
returns-then-k-ne0 c =
    record { asked = λ m r s. let k = c.args.k in simp (ne_eqb k.others 0 c.if-k-ne0.true) }

pub returns-then-own-says : goal.returns-then-own-says
unfolding row_question ask
returns-then-own-says c =
    record {
      asked = λ m r s. let a = c.args in
          simp (eq-eqb a.k.others 0 c.if-k-ne0.false, s, ne_eqb a.own a.says c.if-own-says.true);
    }

pub returns-then-is_told_early : goal.returns-then-is_told_early
unfolding row_question ask
returns-then-is_told_early c =
    record {
      asked = λ m r s. let a = c.args in
          simp (
            eq-eqb a.k.others 0 c.if-k-ne0.false,
            s,
            eq-eqb a.own a.says c.if-own-says.false,
            r,
            ← c.is_told_early.ensures.tested,
            c.if-is_told_early.true,
          );
    }

-- past the first three questions
up_to_17 : (c : After-is_told_both) (m : Member) → let a = c.args in m.round ≡ a.round → says m ≡ a.says → row_question m a.own a.k ≡ ask (not (told_both a.k)) 17 0
unfolding row_question ask
up_to_17 c m r s =
    let a = c.args in
    simp (
      eq-eqb a.k.others 0 c.if-k-ne0.false,
      s,
      eq-eqb a.own a.says c.if-own-says.false,
      r,
      ← c.is_told_early.ensures.tested,
      c.if-is_told_early.false,
    )

pub returns-then-is_told_both : goal.returns-then-is_told_both
unfolding ask
returns-then-is_told_both c =
    record { asked = λ m r s. simp (up_to_17 (goal.at.returns-then-is_told_both c).After-is_told_both m r s, ← c.is_told_both.ensures.tested, c.if-is_told_both.true) }

pub returns : goal.returns
unfolding ask
returns c =
    record { asked = λ m r s. simp (up_to_17 (goal.at.returns c).After-is_told_both m r s, ← c.is_told_both.ensures.tested, c.if-is_told_both.false) }
