-- `fcwfa_outcome` meets its contract: its number and the outcome are those of the answer of `conclude`. Assumes nothing.
use mathlib.Core.Path.{refl}
use Rattle.laws.proofs.Answer.{answer_given}
use Rattle.simulator.specs.Answers.{outcome_answer}
use Rattle.fcwfa_outcome.specs.Numbers.{outcome_numbers}
use Rattle.fcwfa_outcome.proofs.fcwfa_outcome.Goals as goal

pub returns-in-Ok : goal.returns-in-Ok
unfolding outcome_answer
returns-in-Ok c =
    record {
      concluded = let concluded = c.in-Ok.ensures.concluded in
          let given = answer_given _ _ tt outcome_numbers _ concluded.answered in
          record { number_is = given.0; outcome_given = given.1; promises = record { kept = λ _. concluded.promises.kept _ refl } };
    }
