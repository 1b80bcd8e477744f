-- `text_length` meets its contract: after i processes the headings, the sizes and the lines of the first i are counted, each at most 76 bytes. Assumes
-- nothing.
use mathlib.Core.Path.{refl}
use Prim.Native.Nat.{ℕ, ◌≤◌}
use native.Mathlib.Omega.{arith}
use lib.ListN.{get_or}
use Rattle.laws.proofs.Below.{sum_start, sum_step, sum_end}
use Rattle.fields.proofs.Digits.{digits_few}
use Rattle.schedule.specs.Schedule.{schedule_lent}
use Rattle.acceptance.proofs.Kept.{kept}
use Rattle.text.specs.Written.{process_length, text_length}
use Rattle.writer.proofs.lengths.text_length.Goals as goal
use Rattle.writer.proofs.lengths.text_length.Goals.{After-digit_count-2}

-- how many digits n and t have at most
few : (c : After-digit_count-2) → (c.digit_count.result ≤ 2) × (c.digit_count-2.result ≤ 2)
few c =
    let a = schedule_lent c.args.schedule.now.tables in
    let n_high = (kept c.args.schedule.now).n_high in
    let t_high = (kept c.args.schedule.now).rules.t_high in
    let n = digits_few 1 a.n (omega arith) in
    let t = digits_few 1 a.t (omega arith) in
    (omega arith, omega arith)

pub overflow_add-sizes : goal.overflow_add-sizes
overflow_add-sizes c =
    let most = few c in omega arith

pub overflow_add-sizes-2 : goal.overflow_add-sizes-2
overflow_add-sizes-2 c =
    let most = few c in omega arith

pub overflow_add-total : goal.overflow_add-total
overflow_add-total c =
    let most = few c in omega arith

pub overflow_add-total-2 : goal.overflow_add-total-2
overflow_add-total-2 c =
    let most = few c in omega arith

pub loop-i-init : goal.loop-i-init
loop-i-init c =
    let most = few c in
    let a = schedule_lent c.args.schedule.now.tables in
    let none = sum_start (λ k. process_length a.n k (get_or a.votes k 0) (get_or a.crashes k 0)) in
    (omega arith, omega arith)

pub overflow_add-total-in-loop-i : goal.overflow_add-total-in-loop-i
overflow_add-total-in-loop-i c =
    omega (arith, (kept c.args.schedule.now).n_high)

pub loop-i-preserved : goal.loop-i-preserved
loop-i-preserved c =
    let a = schedule_lent c.args.schedule.now.tables in
    let f : ℕ → ℕ = λ j. process_length a.n j (get_or a.votes j 0) (get_or a.crashes j 0) in
    let more = sum_step c.loop-i.i f _ _ refl c.process_length-total.ensures.is in
    (omega arith, omega arith)

pub returns : goal.returns
unfolding text_length
returns c =
    record {
      is = let a = schedule_lent c.args.schedule.now.tables in
          let f : ℕ → ℕ = λ j. process_length a.n j (get_or a.votes j 0) (get_or a.crashes j 0) in
          let all = sum_end c.loop-i.i a.n f _ refl (omega arith) (omega arith) in
          omega arith;
    }
