-- `completing_row` meets its contract: each turn enters one sender, and those past the end of the crash rounds come after. Assumes nothing.
use mathlib.Core.Path.{◌≡◌, refl, sym, ◌∙◌}
use native.Mathlib.Omega.{arith}
use Rattle.laws.proofs.Overwritten.{over_start, over_more, over_at, over_so, over_all}
use Rattle.delivery.proofs.Heard.{completing_code, completing_rest}
use Rattle.delivery.proofs.rows.completing_row.Goals as goal

pub loop-j-init : goal.loop-j-init
loop-j-init c =
    over_start c.blank_table-row.ensures.blanks

pub loop-j-preserved : goal.loop-j-preserved
loop-j-preserved c =
    over_more (omega arith) c.loop-j.invariant (c.heard_or_nothing.ensures.is ∙ completing_code _ _ _ c.completes.ensures.tested refl)

pub with_rest-requires : goal.with_rest-requires
with_rest-requires c =
    let l = c.loop-j in
    let end : l.j ≡ c.min-known.result = omega arith in
    let over = over_all l.invariant end in
    record { size = omega arith; cut = (over_so over (λ k h. sym (over_at over k 0 h))).is }

pub returns : goal.returns
returns c =
    record {
      row = let l = c.loop-j in
          let a = c.args in
          let r = a.this_round.now in
          let known = c.min-known in
          let end : l.j ≡ known.result = omega arith in
          completing_rest r.round a.size known.result r.crashes.now r.codes.now l.row known.ensures (over_all l.invariant end) c.with_rest.ensures.whole;
    }
