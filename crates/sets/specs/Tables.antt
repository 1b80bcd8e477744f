-- Tables as wide as a set.
use Rattle.std.specs.Prelude.{ℕ, List, ◌++◌, drop, replicate}
use Rattle.laws.specs.Below.{tabulate}
use Rattle.sets.specs.Largest.{largest}

-- the table that holds f 0, f 1, .., f (n - 1), and zeros after them
abbrev pub padded : ℕ → (ℕ → ℕ) → List ℕ
padded n f = tabulate n f ++ drop n (replicate largest 0)
