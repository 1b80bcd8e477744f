-- `refusal_at` meets its contract. Assumes nothing.
use Rattle.std.proofs.Common.{◌≡◌, slice_get, arith}
use Rattle.std.proofs.lemmas.Grind.{common_steps}
use Rattle.std.proofs.lemmas.Option.{gets}
use Rattle.refusals.proofs.Entries.{refusal_handed_out}
use Rattle.refusals.proofs.refusal_at.Goals as goal

pub returns : goal.returns
returns c =
    let k = c.args.k in
    let e : c.copied.result ≡ slice_get c.all_refusals.result k = grind (arith, common_steps, gets) in
    record { handed_out = rw e (refusal_handed_out c.all_refusals.ensures.refused k) }
