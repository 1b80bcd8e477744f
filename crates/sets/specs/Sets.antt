-- Sets of processes as numbers. The process at place i, counted from 0, has the number i + 1; bit i of a set stands for it. Everything here is for
-- any number of processes, and so for a set of any width.
use Rattle.std.specs.Prelude.{ℕ, ◌*◌, ◌/◌, ◌%◌, ◌^◌, Bool, ◌&&◌, not, ltb, eqb}
use Rattle.laws.specs.Below.{sum}

-- "as a number, bit i − 1 stands for process i": whether a set names the process at place i
unfoldable pub names : ℕ → ℕ → Bool
names set i = eqb (set / 2 ^ i % 2) 1

-- "names only processes 1 to n"
abbrev pub up_to : ℕ → ℕ → Bool
up_to n set = ltb set (2 ^ n)

-- "names only processes 1 to n", and not the process at place i
abbrev pub names_others : ℕ → ℕ → ℕ → Bool
names_others n i set = up_to n set && not (names set i)

-- the set that a row of n digits 0 or 1 stands for, "place j for process j": the digit at place j is bit j
abbrev pub set_of : ℕ → (ℕ → ℕ) → ℕ
set_of n digit = sum n (λ j. digit j * 2 ^ j)
