-- `accept` meets its contract: a schedule that a call with answer tables accepts is accepted by one that takes none. Assumes nothing.
use Rattle.std.proofs.Common.{sym}
use Rattle.sets.specs.Largest.{largest}
use Rattle.schedule.specs.Schedule.{schedule_lent}
use Rattle.schedule.proofs.Accepted.{accepted_alone}
use Rattle.acceptance.proofs.accept.Goals as goal

pub invariant_of-result : goal.invariant_of-result
invariant_of-result c =
    record { accepted = accepted_alone (schedule_lent c.args.tables.now) largest _ (sym c.in_ok-question.ensures.asked) }
