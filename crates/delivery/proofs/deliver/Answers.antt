-- `deliver` meets its contract: every row starts as the codes of those that complete the round, and each turn looks at one sender (Heard.antt). Assumes
-- nothing.
use native.Mathlib.Omega.{arith}
use Rattle.sets.specs.Largest.{fitting}
use Rattle.delivery.proofs.Heard.{rows_more, rows_end}
use Rattle.delivery.proofs.deliver.Goals as goal

pub loop-j-preserved : goal.loop-j-preserved
loop-j-preserved c =
    let r = c.args.this_round.now in
    rows_more r.crashes.now r.reaches.now r.codes.now r.round (omega arith) c.loop-j.invariant c.enter_crashing.ensures.entered

pub returns : goal.returns
returns c =
    let r = c.args.this_round.now in record {
      delivered = λ room. rows_end r.crashes.now r.reaches.now r.codes.now r.round (fitting r.n) c.fitting-size.ensures.fit c.loop-j-test.false c.store_row.ensures.stored
          c.loop-j.invariant;
      kept = λ short. absurd (omega arith);
    }
