-- `by_own_row` meets its contract: the member hears the row of its own round (OwnRow.antt). Assumes nothing.
use mathlib.Core.Path.{◌≡◌, refl, sym, ap, ◌∙◌}
use mathlib.Core.Logic.{◌≢◌}
use mathlib.Core.Bool.{true}
use Prim.Native.Nat.{suc, ◌-◌}
use native.Mathlib.Omega.{arith}
use lib.Seq.{length-take-le}
use Rattle.sets.specs.Largest.{largest}
use Rattle.schedule.specs.Schedule.{schedule_lent}
use Rattle.laws.proofs.Answer.{refused_is}
use Rattle.schedule.specs.Questions.{question}
use Rattle.schedule.proofs.Accepted.{question_accepted}
use Rattle.explanation.proofs.OwnRow.{left_before, own_explained}
use Rattle.explanation.proofs.Whole.{alone, inside_array}
use Rattle.explanation.proofs.own.by_own_row.Goals as goal

-- the rounds of an accepted schedule are not refused
pub returns-in_err-ran : goal.returns-in_err-ran
returns-in_err-ran c =
    let s = schedule_lent c.args.tables.now in
    let passed = ap (question s largest) c.no_answers.ensures.long ∙ c.requires.accepted in
    record { explained = absurd ((refused_is _ _ tt c.in_err-ran.ensures.ran).1 passed) }

pub offset_bounds-ran-place : goal.offset_bounds-ran-place
offset_bounds-ran-place c =
    let low = inside_array _ _ c.requires.accepted c.requires.process in omega arith

pub bounds-ran-place : goal.bounds-ran-place
bounds-ran-place c =
    let low = inside_array _ _ c.requires.accepted c.requires.process in omega arith

pub offset_bounds-grid-place : goal.offset_bounds-grid-place
offset_bounds-grid-place c =
    let low = inside_array _ _ c.requires.accepted c.requires.process in omega arith

pub bounds-grid-place : goal.bounds-grid-place
bounds-grid-place c =
    let low = inside_array _ _ c.requires.accepted c.requires.process in omega arith

pub slice_bounds-explain-end : goal.slice_bounds-explain-end
slice_bounds-explain-end c =
    let high = (question_accepted _ largest true c.requires.accepted).n_high in
    sym (length-take-le _ _ (omega arith))

pub returns : goal.returns
returns c =
    record {
      explained = let a = c.args in
          let s = schedule_lent a.tables.now in
          let passed = c.requires.accepted in
          let low = c.requires.process in
          let own = c.requires.own.0 in
          let some : a.round ≢ 0 = c.requires.own.1 in
          let r = a.round - 1 in
          let in_round : a.round ≡ suc r = omega arith in
          let ran = c.in_ok-ran.ensures.ran in
          let left = left_before s passed a.place low r (sym own ∙ in_round) r refl (alone s _ c.no_answers.ensures.long ran) in
          let said = c.codes_of-codes.ensures.said in
          let sent = c.deliver.ensures.delivered (omega arith) in
          own_explained s passed a.place low r (sym own ∙ in_round) left said in_round sent refl refl c.explain.ensures.answered;
    }
