-- `case_at` meets its contract. Assumes nothing.
use Rattle.std.proofs.Common.{◌≡◌, slice_get, arith}
use Rattle.std.proofs.lemmas.Grind.{common_steps}
use Rattle.std.proofs.lemmas.Option.{gets}
use Rattle.marked.proofs.Entries.{case_handed_out}
use Rattle.marked.proofs.case_at.Goals as goal

pub returns : goal.returns
returns c =
    let k = c.args.k in
    let e : c.copied.result ≡ slice_get c.all_cases.result k = grind (arith, common_steps, gets) in
    record { handed_out = rw e (case_handed_out c.all_cases.ensures.marked k) }
