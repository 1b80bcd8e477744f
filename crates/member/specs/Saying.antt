-- What a member says, as the code that stands for it in a row.
use Rattle.std.specs.Prelude.{ℕ, ◌+◌, cond}
use Rattle.member.specs.declared.Member.{Member}
use Rattle.member.specs.State.{undecided, stopped}

-- "the codes are 0 nothing, 1 estimate 0, 2 estimate 1, 3 decided 0, 4 decided 1"
abbrev pub nothing : ℕ
nothing = 0

abbrev pub estimate_code : ℕ → ℕ
estimate_code value = 1 + value

abbrev pub decided_code : ℕ → ℕ
decided_code value = 3 + value

-- "a stopped member nothing; a decided one "decided" with its estimate; any other "estimate" with its estimate"
unfoldable pub says : Member → ℕ
says m = cond (stopped m) nothing (cond (undecided m) (estimate_code m.estimate) (decided_code m.estimate))
