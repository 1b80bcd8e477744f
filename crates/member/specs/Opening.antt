-- Opening a member: the state that it starts in, and the questions before it.
use Rattle.std.specs.Prelude.{ℕ, ◌-◌, leb}
use Rattle.laws.specs.Test.{within}
use Rattle.laws.specs.Answer.{ask}
use Rattle.member.specs.declared.Member.{Member}

-- "Opening: round 1, estimate = vote, undecided.", and the silent set "is empty at opening"
abbrev pub opening : ℕ → ℕ → ℕ → ℕ → Member
opening n t id vote = record { n = n; t = t; id = id; round = 1; estimate = vote; decided = 0; silent = 0 }

-- "n from 4 to 32? 1. t from 3 to n − 1? 2.", with the limit for 32, and the questions after them
abbrev pub size_questions : ℕ → ℕ → ℕ → ℕ → ℕ
size_questions limit n t others =
    ask (within 4 n limit) 1
    (ask (within 3 t (n - 1)) 2
    others)

-- "Opening: 1, 2, own number from 1 to n? 10, 4."
unfoldable pub open_question : ℕ → ℕ → ℕ → ℕ → ℕ → ℕ
open_question limit n t id vote =
    size_questions limit n t
    (ask (within 1 id n) 10
    (ask (leb vote 1) 4
    0))
