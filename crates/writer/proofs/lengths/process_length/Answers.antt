-- `process_length` meets its contract: the digits of three numbers are added up, of which the first has at most two and the others at most three. Assumes
-- nothing.
use Prim.Native.Nat.{◌+◌, ◌≤◌}
use native.Mathlib.Omega.{arith}
use lib.ListN.{get_or}
use Rattle.sets.specs.Largest.{largest}
use Rattle.schedule.specs.Schedule.{schedule_lent}
use Rattle.acceptance.proofs.Kept.{kept}
use Rattle.fields.proofs.Digits.{digits_few}
use Rattle.text.specs.Written.{process_length}
use Rattle.writer.proofs.lengths.process_length.Goals as goal
use Rattle.writer.proofs.lengths.process_length.Goals.{After-digit_count-crashed}

-- how many digits there are at most, and how many letters
few : (c : After-digit_count-crashed) → (c.digit_count-own.result ≤ 2) × (c.digit_count-voted.result ≤ 3) × (c.digit_count-crashed.result ≤ 3) × (c.args.schedule.now.tables.n ≤ largest)
few c =
    let a = c.args in
    let s = schedule_lent a.schedule.now.tables in
    let n_high = (kept a.schedule.now).n_high in
    let process = c.requires.process in
    let own = digits_few 1 (a.i + 1) (omega arith) in
    let voted = digits_few 2 (get_or s.votes a.i 0) (omega arith) in
    let crashed = digits_few 2 (get_or s.crashes a.i 0) (omega arith) in
    (omega arith, omega arith, omega arith, n_high)

pub overflow_add-i : goal.overflow_add-i
overflow_add-i c =
    omega (arith, c.requires.process, (kept c.args.schedule.now).n_high)

pub bounds-tables-i : goal.bounds-tables-i
bounds-tables-i c =
    omega (arith, c.requires.process, (kept c.args.schedule.now).votes_long)

pub bounds-tables-i-2 : goal.bounds-tables-i-2
bounds-tables-i-2 c =
    omega (arith, c.requires.process, (kept c.args.schedule.now).crashes_long)

pub overflow_add-result : goal.overflow_add-result
overflow_add-result c =
    let most = few c in omega arith

pub overflow_add-result-2 : goal.overflow_add-result-2
overflow_add-result-2 c =
    let most = few c in omega arith

pub overflow_add-result-3 : goal.overflow_add-result-3
overflow_add-result-3 c =
    omega (arith, (kept c.args.schedule.now).n_high)

pub overflow_add-result-4 : goal.overflow_add-result-4
overflow_add-result-4 c =
    let most = few c in omega arith

pub returns : goal.returns
unfolding process_length
returns c =
    let most = few c in record { is = omega arith; short = omega arith }
