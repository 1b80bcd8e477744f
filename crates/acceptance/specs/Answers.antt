-- What acceptance answers. `tt` stands for nothing: an acceptance has no value, and a refusal gives back its number only.
use Rattle.std.specs.Prelude.{ℕ, true}
use Rattle.laws.specs.Answer.{Answer, answer}
use Rattle.schedule.specs.Schedule.{Schedule}
use Rattle.schedule.specs.Questions.{question}

-- "The first "no" gives its number."; "Number 3 asks only about the tables that the call takes.": acceptance takes no answer tables
unfoldable pub accept_answer : ℕ → Schedule → Answer (Unit {0}) (Unit {0})
accept_answer limit s = answer (question s limit true) tt tt
