-- `simulate` meets its contract: a refused call is that of Whole.antt's first part, and an accepted one gives what its second part shows. Assumes
-- nothing.
use Rattle.std.proofs.lemmas.Result.{err_from_is_err_and}
use native.Mathlib.Omega.{arith}
use Rattle.laws.proofs.Answer.{refused_is}
use Rattle.schedule.specs.Schedule.{schedule_lent}
use Rattle.run.specs.Protocol.{fcwfa}
use Rattle.simulator.proofs.Whole.{refused_answer, kept_table, refused_keeps, tables_long_lem, small, completed_answer, given_decisions, given_rounds, given_is, passed, completed_keeps}
use Rattle.simulator.proofs.simulate.Goals as goal

pub returns-in_err-ran : goal.returns-in_err-ran
returns-in_err-ran c =
    let p = err_from_is_err_and c.from_residual.result c.from_residual.ensures.1 in
    record {
      simulated = let a = c.args in
          let s = schedule_lent a.tables.now in
          let d = a.decisions.now in
          let r = a.rounds.now in
          let asked = (refused_is _ _ tt c.in_err-ran.ensures.ran).0 in
          rw (p.1, p.2) (record {
            answered = refused_answer fcwfa s d r _ asked;
            decisions_given = kept_table fcwfa s d r _ asked _ _;
            rounds_given = kept_table fcwfa s d r _ asked _ _;
            promises = refused_keeps fcwfa s d r _ asked;
          });
    }

pub fill-requires : goal.fill-requires
fill-requires c =
    record {
      size = let a = c.args in
          let s = schedule_lent a.tables.now in
          let left = c.in_ok-ran.ensures.ran in
          let long = tables_long_lem fcwfa s a.decisions.now a.rounds.now left in
          let n_high = small fcwfa s a.decisions.now a.rounds.now left in
          (omega arith, omega arith);
    }

pub returns : goal.returns
returns c =
    record {
      simulated = let a = c.args in
          let s = schedule_lent a.tables.now in
          let d = a.decisions.now in
          let r = a.rounds.now in
          let left = c.in_ok-ran.ensures.ran in
          let filled = c.fill.ensures in
          let found = c.counts_of.ensures.counted in
          record {
            answered = completed_answer fcwfa s d r left filled.decided filled.timed found;
            decisions_given = given_decisions fcwfa s d r left filled.decided filled.timed found;
            rounds_given = given_rounds fcwfa s d r left filled.decided filled.timed found;
            promises = completed_keeps s _ (passed fcwfa s d r left) (given_is fcwfa s d r left filled.decided filled.timed found);
          };
    }
