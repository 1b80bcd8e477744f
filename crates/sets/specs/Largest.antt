-- The largest cluster.
use Rattle.std.specs.Prelude.{ℕ, min}

-- "n goes to 64, t to n − 1, and a reach has 64 bits": the largest n that is accepted, and how many processes a set has bits for. Where document 01
-- says 32, of n or of a table, it is this number. The questions and "in range" take the limit as a parameter, and contracts give them this one; every
-- other definition is for any n and t.
abbrev pub largest : ℕ
largest = 64

-- how many of n processes a set has bits for: all of them in an accepted schedule
abbrev pub fitting : ℕ → ℕ
fitting n = min n largest
