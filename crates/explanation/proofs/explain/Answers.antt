-- `explain` meets its contract: what is refused is refused by the questions, a process without a decision has its crash round, and any other what its own
-- row tells (Whole.antt). Assumes nothing.
use mathlib.Core.Path.{◌≡◌, refl, sym, ap, ◌∙◌}
use mathlib.Core.Bool.{true}
use Prim.Native.Nat.{◌+◌, ◌-◌, ◌≤◌, ◌<◌, min}
use native.Mathlib.Omega.{arith}
use Rattle.laws.specs.Test.{within}
use Rattle.laws.specs.Answer.{accepted}
use Rattle.std.proofs.lemmas.Result.{err_from_is_err_and}
use Rattle.laws.proofs.Answer.{refused_is}
use Rattle.sets.specs.Largest.{largest}
use Rattle.member.specs.declared.Reason.{Reason}
use Rattle.schedule.specs.Schedule.{schedule_lent}
use Rattle.schedule.specs.Questions.{question}
use Rattle.schedule.proofs.Accepted.{question_accepted}
use Rattle.run.specs.Protocol.{fcwfa}
use Rattle.execution.specs.Ran.{ran_of}
use Rattle.explanation.proofs.Whole.{alone, refused_schedule_lem, passed, no_process, own_round_lem, explains, crash_round, place_low, inside_array}
use Rattle.explanation.proofs.explain.Goals as goal
use Rattle.explanation.proofs.explain.Goals.{In_ok-ran, Else-not-is_within}

pub returns-in_err-ran : goal.returns-in_err-ran
returns-in_err-ran c =
    let p = err_from_is_err_and c.from_residual.result c.from_residual.ensures.1 in
    let s = schedule_lent c.args.tables.now in
    record { explained = rw (p.1, p.2) (refused_schedule_lem _ _ _ ((refused_is _ _ tt c.in_err-ran.ensures.ran).0 ∙ ap (question s largest) c.no_answers.ensures.long)) }

-- the call takes no answer tables
rounds_leave : (c : In_ok-ran) → let s = schedule_lent c.args.tables.now in accepted c.in_ok-ran.ran ≡ ran_of fcwfa largest s true (min largest (s.t + 1))
rounds_leave c = alone _ _ c.no_answers.ensures.long c.in_ok-ran.ensures.ran

pub returns-then-not-is_within : goal.returns-then-not-is_within
returns-then-not-is_within c =
    record { explained = no_process _ _ (rounds_leave (goal.at.returns-then-not-is_within c).In_ok-ran) (sym c.if-not-is_within.ensures.tested) }

-- where the number is one of a process
inside : (c : Else-not-is_within) → let a = c.args in within 1 a.id a.tables.now.n ≡ true
inside c = sym c.if-not-is_within.ensures.tested

low : (c : Else-not-is_within) → let a = c.args in (1 ≤ a.id) × (a.id - 1 < a.tables.now.n)
low c = place_low _ _ (inside c)

accepts : (c : Else-not-is_within) → let a = c.args in question (schedule_lent a.tables.now) largest true ≡ 0
accepts c = passed _ c.args.id (rounds_leave (goal.at.Else-not-is_within c).In_ok-ran)

array : (c : Else-not-is_within) → c.args.id - 1 < largest
array c = inside_array _ _ (accepts c) (low c).1

pub overflow_sub-place : goal.overflow_sub-place
overflow_sub-place c =
    (low c).0

pub offset_bounds-ran-place : goal.offset_bounds-ran-place
offset_bounds-ran-place c =
    let place = array (goal.at.offset_bounds-ran-place c).Else-not-is_within in omega arith

pub bounds-ran-place : goal.bounds-ran-place
bounds-ran-place c =
    let place = array (goal.at.bounds-ran-place c).Else-not-is_within in omega arith

pub bounds-tables-place : goal.bounds-tables-place
bounds-tables-place c =
    let l = (low (goal.at.bounds-tables-place c).Else-not-is_within).1 in
    let long = (question_accepted _ largest true (accepts (goal.at.bounds-tables-place c).Else-not-is_within)).crashes_long in
    omega arith

pub returns-then-round-eq0 : goal.returns-then-round-eq0
returns-then-round-eq0 c =
    record {
      explained = let left = rounds_leave (goal.at.returns-then-round-eq0 c).In_ok-ran in
          let own = own_round_lem _ _ left (inside (goal.at.returns-then-round-eq0 c).Else-not-is_within) (low (goal.at.returns-then-round-eq0 c).Else-not-is_within).1 refl in
          explains _ _ left (inside (goal.at.returns-then-round-eq0 c).Else-not-is_within) (low (goal.at.returns-then-round-eq0 c).Else-not-is_within).1 _
          (ap (λ (w : Reason). accepted w) (crash_round _ _ left (inside (goal.at.returns-then-round-eq0 c).Else-not-is_within) (low (goal.at.returns-then-round-eq0 c).Else-not-is_within).1 refl (sym own ∙ c.if-round-eq0.true)));
    }

pub by_own_row-requires : goal.by_own_row-requires
by_own_row-requires c =
    let left = rounds_leave (goal.at.by_own_row-requires c).In_ok-ran in
    record { accepted = accepts (goal.at.by_own_row-requires c).Else-not-is_within; process = (low (goal.at.by_own_row-requires c).Else-not-is_within).1; own = (own_round_lem _ _ left (inside (goal.at.by_own_row-requires c).Else-not-is_within) (low (goal.at.by_own_row-requires c).Else-not-is_within).1 refl, c.if-round-eq0.false) }

pub returns : goal.returns
returns c =
    record { explained = explains _ _ (rounds_leave (goal.at.returns c).In_ok-ran) (inside (goal.at.returns c).Else-not-is_within) (low (goal.at.returns c).Else-not-is_within).1 _ c.by_own_row.ensures.explained }
