-- `message_count` meets its contract: n - 1 for each sender that completes the round and speaks, and each turn adds what a crashing sender sends
-- (Sent.antt). Assumes nothing.
use native.Mathlib.Nat.{le_trans, le_of_eq}
use native.Mathlib.Omega.{arith}
use Rattle.laws.proofs.Sums.{sum_high}
use Rattle.sets.specs.Largest.{largest, fitting}
use Rattle.delivery.proofs.Sent.{crashing_adds, completing_few, few_more, so_far_start, so_far_more, all_sent, sent_low}
use Rattle.delivery.proofs.message_count.Goals as goal

pub overflow_mul-messages : goal.overflow_mul-messages
overflow_mul-messages c =
    let first = completing_few c.others.result _ (omega arith) c.speakers.ensures.counted in omega arith

pub loop-j-init : goal.loop-j-init
loop-j-init c =
    let r = c.args.this_round.now in
    (so_far_start r.crashes.now r.reaches.now r.codes.now r.round _, λ k l. absurd (omega arith))

pub overflow_add-messages : goal.overflow_add-messages
overflow_add-messages c =
    let r = c.args.this_round.now in
    let at = c.loop-j in
    let first = completing_few c.others.result _ (omega arith) c.speakers.ensures.counted in
    let added = sum_high at.j largest (crashing_adds r.crashes.now r.reaches.now r.codes.now r.round) at.invariant.1 in
    let so_far = at.invariant.0 in
    let few = c.crashing_copies-messages.ensures.few in
    omega arith

pub loop-j-preserved : goal.loop-j-preserved
loop-j-preserved c =
    let r = c.args.this_round.now in
    let at = c.loop-j in
    let copies = c.crashing_copies-messages.ensures in (
      so_far_more r.crashes.now r.reaches.now r.codes.now r.round _ at.j at.invariant.0 copies.sent,
      few_more r.crashes.now r.reaches.now r.codes.now r.round at.j at.invariant.1 copies.sent copies.few,
    )

pub returns : goal.returns
returns c =
    let r = c.args.this_round.now in
    let at = c.loop-j in
    let sent =
    all_sent r.crashes.now r.reaches.now r.codes.now r.round (fitting r.n) _ c.fitting-size.ensures.fit (omega arith) c.others.ensures.is
    c.completing_row-row.ensures.row c.speakers.ensures.counted at.invariant.0 (omega arith)
    in
    record { counted = sent; few = le_trans (le_of_eq sent) (sent_low r.crashes.now r.reaches.now r.codes.now r.round (fitting r.n) (omega arith) (λ k l. at.invariant.1 k (omega arith))) }
