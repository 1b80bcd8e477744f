-- Tables and schedules of four processes, as the marked ones are.
use Rattle.std.specs.Prelude.{ℕ, List, [], ◌∷◌}
use Rattle.schedule.specs.Schedule.{Schedule, schedule_of}

-- a table with a number for each of four processes
abbrev pub four : ℕ → ℕ → ℕ → ℕ → List ℕ
four a b c d = a ∷ b ∷ c ∷ d ∷ []

-- "all votes 1"
abbrev pub all_one : List ℕ
all_one = four 1 1 1 1

-- no crash rounds, and no reaches
abbrev pub all_zero : List ℕ
all_zero = four 0 0 0 0

-- "n = 4, t = 3", all votes 1, with these crash rounds and reaches
abbrev pub four_voting1 : List ℕ → List ℕ → Schedule
four_voting1 crashes reaches = schedule_of 4 3 all_one crashes reaches
