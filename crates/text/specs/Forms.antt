-- The form of each line of a schedule text. A line that is not of its form has `wrong` here. What is read of it does not depend on what stands after it.
use Rattle.std.specs.Prelude.{ℕ, ◌+◌, List, cond, eqb}
use Rattle.laws.specs.Quoted.{quoted}
use Rattle.lines.specs.Lines.{lf}
use Rattle.fields.specs.Found.{Found, found, wrong, then_read}
use Rattle.fields.specs.Fields.{space, number_field, digit_field, reach_field}
use Rattle.text.specs.declared.Sizes.{Sizes}
use Rattle.text.specs.declared.Entry.{Entry}

-- "line 1 `n t`", with its LF
abbrev pub sizes_heading : List ℕ
sizes_heading = quoted "n t\n"

-- "line 3 `id vote crash reach`", with its LF
abbrev pub processes_heading : List ℕ
processes_heading = quoted "id vote crash reach\n"

-- "Line 2 has the values"
unfoldable pub sizes_at : List ℕ → Found Sizes
sizes_at text =
    then_read (number_field space text) (λ n rest.
    then_read (number_field lf rest) (λ t rest.
    found (record { n = n; t = t }) rest))

-- "line 3 + i has process i: its own number, one digit for the vote, the crash round, and a reach of n letters": of the process at place i, counted from 0,
-- whose number is i + 1
unfoldable pub entry_at : ℕ → ℕ → List ℕ → Found Entry
entry_at n i text =
    then_read (number_field space text) (λ id rest.
    cond (eqb id (i + 1))
    (then_read (digit_field space rest) (λ vote rest.
    then_read (number_field space rest) (λ crash rest.
    then_read (reach_field lf rest n) (λ reach rest.
    found (record { vote = vote; crash = crash; reach = reach }) rest))))
    wrong)
