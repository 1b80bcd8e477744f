-- `fcwfa_simulate` meets its contract: its number, counts and tables are those of the answer of `simulate`. Assumes nothing.
use mathlib.Core.Path.{refl, ◌∙◌}
use Rattle.laws.proofs.Answer.{answer_given}
use Rattle.simulator.specs.Answers.{simulate_answer}
use Rattle.fcwfa_simulator.specs.Numbers.{counts_numbers}
use Rattle.fcwfa_simulator.proofs.fcwfa_simulate.Goals as goal

pub returns-in-Ok : goal.returns-in-Ok
unfolding simulate_answer
returns-in-Ok c =
    record {
      simulated = let run = c.in-Ok.ensures.simulated in
          let given = answer_given _ _ tt counts_numbers _ run.answered in
          let numbers = c.counts_numbers.ensures.are in
          record {
            number_is = given.0;
            decisions_given = run.decisions_given;
            rounds_given = run.rounds_given;
            counts_given = numbers ∙ given.1;
            promises = record { kept = λ _. rw numbers (run.promises.kept _ refl) };
          };
    }
