-- `text_length` meets its contract: after i processes the headings, the sizes and the lines of the first i are counted, each at most 76 bytes. Assumes
-- nothing.
use mathlib.Core.Path.{◌≡◌}
use Prim.Native.Nat.{◌+◌, ◌*◌, ◌≤◌}
use lib.ListN.{get_or}
use Rattle.laws.specs.Below.{sum}
use Rattle.fields.specs.Decimal.{digit_count}
use Rattle.schedule.specs.Schedule.{schedule_lent}
use Rattle.text.specs.Written.{process_length}
use Rattle.writer.proofs.lengths.text_length.Given as goal

abbrev pub invariant-loop-i : goal.invariant-loop-i
invariant-loop-i l =
    let s = schedule_lent l.schedule.tables in
    (l.total ≤ 30 + 76 * l.i)
    × (l.total ≡ 26 + digit_count s.n + digit_count s.t + sum l.i (λ k. process_length s.n k (get_or s.votes k 0) (get_or s.crashes k 0)))
