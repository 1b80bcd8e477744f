-- What is written of given counts and tables, and of an outcome.
use Rattle.std.specs.Prelude.{ℕ, List, [], Bool, cond, ◌&&◌, length, get_or, leb, eqb}
use Rattle.laws.specs.Below.{count}
use Rattle.simulator.specs.declared.Counts.{Counts}
use Rattle.simulator.specs.declared.Outcome.{Outcome}
use Rattle.simulator.specs.Answers.{given_by}
use Rattle.text.specs.Output.{report_text, outcome_text}

-- "For each process the bench gives decision 0, 1 or 2 (none)": whether each of these is a decision
unfoldable pub are_decisions : List ℕ → Bool
are_decisions decisions = eqb (count (length decisions) (λ i. leb (get_or decisions i 0) 2)) (length decisions)

-- the report of these counts and tables; nothing, if the tables are of two lengths or hold what is no decision
unfoldable pub shown : ℕ → Counts → List ℕ → List ℕ → List ℕ
shown t counts decisions rounds =
    cond (eqb (length rounds) (length decisions) && are_decisions decisions)
    (report_text (length decisions) t (given_by counts decisions rounds))
    []

-- the two lines of an outcome; nothing, if it holds what is no decision
unfoldable pub written_outcome : Outcome → List ℕ
written_outcome outcome = cond (leb outcome.decision 2) (outcome_text outcome.decision outcome.round) []
