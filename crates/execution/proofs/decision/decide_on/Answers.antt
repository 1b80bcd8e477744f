-- `decide_on` meets its contract: each turn plays one round (AllRounds.antt) and looks for a process that is decided after it (Searching.antt). Assumes
-- nothing.
use mathlib.Core.Path.{◌≡◌, refl}
use Prim.Native.Nat.{ℕ, ◌≤◌, ◌<◌}
use native.Mathlib.Omega.{arith}
use lib.ListN.{length}
use Rattle.sets.specs.Largest.{largest}
use Rattle.acceptance.specs.declared.accepted.Accepted.{Accepted}
use Rattle.execution.specs.Calls.{calls}
use Rattle.acceptance.proofs.Kept.{kept}
use Rattle.execution.proofs.Given.{given, promises, rounds_few}
use Rattle.execution.proofs.AllRounds.{starts, said_at, codes_long, goes_on}
use Rattle.execution.proofs.Searching.{Searched, nothing_searched, round_left, searches_on, place_low, first_decides}
use Rattle.execution.proofs.decision.decide_on.Goals as goal

-- what was found in r rounds
module _ (schedule : Accepted) {place r : ℕ} (h : Searched (given schedule) place r) where
  -- there are no more of them than a set has bits
  few : r ≤ largest
  few =
      let rounds = rounds_few schedule in
      let inside = h.inside in
      omega arith

  -- somebody who is decided has a place in the array
  inside_array : (place ≡ (given schedule).n → ⊥) → place < largest
  inside_array some =
      let n_high = (kept schedule).n_high in
      let low = place_low (given schedule) h some in
      omega arith

pub loop-place-init : goal.loop-place-init
loop-place-init c =
    let a = c.args.schedule.now in
    let opened = c.open_all-members.ensures in
    (starts calls (given a) (kept a).n_high c.requires.size opened.opened c.blank_table-codes.ensures.blanks opened.said, nothing_searched (given a) (kept a).rules, refl)

pub overflow_add-round : goal.overflow_add-round
overflow_add-round c =
    let low = few c.args.schedule.now c.loop-place.invariant.1 in omega arith

pub overflow_cast-round : goal.overflow_cast-round
overflow_cast-round c =
    let low = few c.args.schedule.now c.loop-place.invariant.1 in omega arith

pub play_round-requires : goal.play_round-requires
play_round-requires c =
    let a = c.args.schedule.now in
    let n_high = (kept a).n_high in
    let at = c.loop-place in
    let room = at.invariant.0.room in
    let long = codes_long calls (given a) n_high at.played at.invariant.0 in
    record { room = (omega arith, omega arith); said_before = said_at calls (given a) n_high at.played at.invariant.0 }

pub lowest_decided-place-requires : goal.lowest_decided-place-requires
lowest_decided-place-requires c =
    record { size = (kept c.args.schedule.now).n_high }

pub overflow_add-played : goal.overflow_add-played
overflow_add-played c =
    let low = few c.args.schedule.now c.loop-place.invariant.1 in omega arith

pub loop-place-smaller : goal.loop-place-smaller
loop-place-smaller c =
    let a = c.args.schedule.now in
    let left = round_left (given a) (kept a).rules c.loop-place.invariant.1 c.loop-place-test.true in omega arith

pub loop-place-preserved : goal.loop-place-preserved
loop-place-preserved c =
    let a = c.args.schedule.now in
    let n_high = (kept a).n_high in
    let at = c.loop-place in
    let round = c.play_round.ensures in
    let as_long = at.invariant.2 in
    let long : length c.play_round.new.grid ≡ length at.grid = omega arith in
    let between = goes_on calls (given a) n_high at.played at.invariant.0 round.played round.said long in (
      between,
      searches_on (given a) (kept a).rules at.invariant.1 c.loop-place-test.true n_high (promises a).own_answers between.states c.lowest_decided-place.ensures.found,
      omega arith,
    )

pub offset_bounds-members-place : goal.offset_bounds-members-place
offset_bounds-members-place c =
    let low = inside_array c.args.schedule.now c.loop-place.invariant.1 c.loop-place-test.false in omega arith

pub bounds-members-place : goal.bounds-members-place
bounds-members-place c =
    let low = inside_array c.args.schedule.now c.loop-place.invariant.1 c.loop-place-test.false in omega arith

pub overflow_cast-ended : goal.overflow_cast-ended
overflow_cast-ended c =
    let low = few c.args.schedule.now c.loop-place.invariant.1 in omega arith

pub returns : goal.returns
returns c =
    let a = c.args.schedule.now in
    let inv = c.loop-place.invariant in
    record { decided = first_decides (given a) (kept a).rules inv.1 c.loop-place-test.false (kept a).n_high (promises a).own_answers inv.0.states refl refl }
