-- The count of crashes that ends sooner, of t and a table of crash rounds: the process at place i has the number i + 1, and n is the table's length.
use Rattle.std.specs.Prelude.{ℕ, ◌+◌, List, length, eqb}
use Rattle.laws.specs.Below.{least}
use Rattle.schedule.specs.Schedule.{crashes_in}

module _ (t : ℕ) (crashes : List ℕ) where
  -- "the number of the last process it looked at: that crash's process, or n where there is no such crash": the least k such that the first k
  -- processes hold t + 1 crashes, or n if there is none (where k is n, that is n too)
  unfoldable pub looked_at : ℕ
  looked_at = least (length crashes) (λ k. eqb (crashes_in k crashes) (t + 1))

  -- "it shall end at the crash that makes t + 1 of them, and answer .. the count": of the processes looked at
  unfoldable pub crashes_counted : ℕ
  crashes_counted = crashes_in looked_at crashes
