-- The state of a member: in range, and stopped.
use Rattle.std.specs.Prelude.{ℕ, ◌+◌, ◌-◌, Bool, cond, ◌&&◌, ◌||◌, not, leb, eqb}
use Rattle.laws.specs.Test.{within}
use Rattle.member.specs.declared.Member.{Member}
use Rattle.sets.specs.Sets.{names_others}
use Rattle.member.specs.Opening.{open_question}

-- "the decided round (0 while undecided)"
abbrev pub undecided : Member → Bool
undecided m = eqb m.decided 0

-- "n, t, own number and estimate within their limits": the limits that opening asks for
unfoldable pub in_limits : ℕ → Member → Bool
in_limits limit m = eqb (open_question limit m.n m.t m.id m.estimate) 0

-- "undecided with a round from 1 to t + 1, or decided in d from 2 to t + 1 with a round of d + 1 or d + 2, at most t + 2"
unfoldable pub placed : Member → Bool
placed m =
    cond (undecided m) (within 1 m.round (m.t + 1))
    (within 2 m.decided (m.t + 1) && (within (m.decided + 1) m.round (m.decided + 2) && leb m.round (m.t + 2)))

-- "In range now also means that it names only processes 1 to n and not the own number": the silent set
unfoldable pub silent_others : Member → Bool
silent_others m = names_others m.n (m.id - 1) m.silent

-- "In range means: .."
unfoldable pub in_range : ℕ → Member → Bool
in_range limit m = in_limits limit m && (placed m && silent_others m)

-- "Stopped means: round t + 2, or decided in d with round d + 2."
unfoldable pub stopped : Member → Bool
stopped m = eqb m.round (m.t + 2) || (not (undecided m) && eqb m.round (m.decided + 2))
