-- `no_answers` meets its contract: both lengths are n. Assumes nothing.
use Rattle.std.proofs.Common.{refl}
use Rattle.schedule.proofs.Accepted.{answers_long}
use Rattle.acceptance.proofs.tables.no_answers.Goals as goal

pub returns : goal.returns
returns c =
    record { long = answers_long c.args.n _ _ refl refl }
