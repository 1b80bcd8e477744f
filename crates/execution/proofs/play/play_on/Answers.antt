-- `play_on` meets its contract: each turn plays one round (AllRounds.antt), and after a round in which nothing is sent nothing happens any more. Assumes
-- nothing.
use mathlib.Core.Path.{refl, sym, ◌∙◌}
use native.Mathlib.Omega.{arith}
use Rattle.run.specs.Protocol.{fcwfa}
use Rattle.execution.specs.Calls.{calls}
use Rattle.acceptance.proofs.Kept.{kept}
use Rattle.execution.proofs.Given.{given, promises, rounds_few}
use Rattle.execution.proofs.AllRounds.{nothing_counted, starts, said_at, codes_long, goes_on, sent_in, counts_on, ends_last, ends_silent}
use Rattle.execution.proofs.play.play_on.Goals as goal

pub loop-played-init : goal.loop-played-init
loop-played-init c =
    let a = c.args.schedule.now in
    let opened = c.open_all-members.ensures in
    (starts calls (given a) (kept a).n_high c.requires.size opened.opened c.blank_table-codes.ensures.blanks opened.said, nothing_counted calls (given a) c.args.last, refl)

pub overflow_cast-round : goal.overflow_cast-round
overflow_cast-round c =
    let few = rounds_few c.args.schedule.now in
    let rounds = c.requires.rounds in
    omega arith

pub returns-then-sent-eq0 : goal.returns-then-sent-eq0
returns-then-sent-eq0 c =
    let a = c.args.schedule.now in
    let n_high = (kept a).n_high in
    let at = c.loop-played in
    let sent = sent_in calls (given a) n_high at.played at.invariant.0 c.message_count-sent.ensures.counted in
    record { played = ends_silent fcwfa (given a) n_high (promises a).own_answers c.requires.rounds at.invariant.0.states at.invariant.1 (promises a).silence (omega arith) (sym sent ∙ c.if-sent-eq0.true) }

pub play_round-requires : goal.play_round-requires
play_round-requires c =
    let a = c.args.schedule.now in
    let n_high = (kept a).n_high in
    let at = c.loop-played in
    let room = at.invariant.0.room in
    let long = codes_long calls (given a) n_high at.played at.invariant.0 in
    record { room = (omega arith, omega arith); said_before = said_at calls (given a) n_high at.played at.invariant.0 }

pub overflow_add-messages : goal.overflow_add-messages
overflow_add-messages c =
    let few = rounds_few c.args.schedule.now in
    let rounds = c.requires.rounds in
    let so_far = c.loop-played.invariant.1 in
    let inside = so_far.inside in
    let counted = so_far.few in
    let high = c.message_count-sent.ensures.few in
    omega arith

pub loop-played-preserved : goal.loop-played-preserved
loop-played-preserved c =
    let a = c.args.schedule.now in
    let n_high = (kept a).n_high in
    let at = c.loop-played in
    let as_long = at.invariant.2 in
    let round = c.play_round.ensures in
    let counted = c.message_count-sent.ensures in
    let sent = sent_in calls (given a) n_high at.played at.invariant.0 counted.counted in (
      goes_on calls (given a) n_high at.played at.invariant.0 round.played round.said (omega arith),
      counts_on calls (given a) at.invariant.1 (omega arith) sent counted.few,
      omega arith,
    )

pub returns : goal.returns
returns c =
    let a = c.args.schedule.now in
    let at = c.loop-played in
    record { played = ends_last fcwfa (given a) (kept a).n_high (promises a).own_answers c.requires.rounds at.invariant.0.states at.invariant.1 c.loop-played-test.false }
