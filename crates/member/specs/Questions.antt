-- The questions of saying and hearing. Those of opening are in Opening.antt.
use Rattle.std.specs.Prelude.{ℕ, ◌-◌, List, not, length, get_or, eqb}
use Rattle.laws.specs.Answer.{ask}
use Rattle.member.specs.declared.Member.{Member}
use Rattle.member.specs.declared.Tally.{Tally}
use Rattle.member.specs.State.{in_range, stopped}
use Rattle.member.specs.Saying.{says}
use Rattle.member.specs.Hearing.{tally_of, told_early, told_both}

-- "Saying: state in range? 11."
unfoldable pub say_question : ℕ → Member → ℕ
say_question limit m = ask (in_range limit m) 11 0

-- "every code 0 to 4? 14; own place equal to what it says now? 15; no code 3 or 4 in rounds 1 and 2? 16; not both 3 and 4? 17",
-- from the counts of the row and the code that stands in the own place
unfoldable pub row_question : Member → ℕ → Tally → ℕ
row_question m own k =
    ask (eqb k.others 0) 14
    (ask (eqb own (says m)) 15
    (ask (not (told_early m.round k)) 16
    (ask (not (told_both k)) 17
    0)))

-- "Hearing: 11; not stopped? 12; row n long? 13", and then those about the row
unfoldable pub hear_question : ℕ → Member → List ℕ → ℕ
hear_question limit m row =
    ask (in_range limit m) 11
    (ask (not (stopped m)) 12
    (ask (eqb (length row) m.n) 13
    (row_question m (get_or row (m.id - 1) 0) (tally_of row))))
