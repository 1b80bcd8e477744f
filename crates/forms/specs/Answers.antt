-- What the readers of a schedule text's lines answer.
use Rattle.std.specs.Prelude.{ℕ, List, Option, Some, None, cond, leb}
use Rattle.fields.specs.Found.{Found, found, wrong}
use Rattle.text.specs.declared.Entry.{Entry}
use Rattle.text.specs.Forms.{entry_at}

-- the value that was found, without the text after it
abbrev pub value_of : {A : Type 0} → Found A → Option A
value_of (found value rest) = Some value
value_of wrong = None

-- the line of a process whose reach has at most `limit` letters
unfoldable pub entry_up_to : ℕ → ℕ → ℕ → List ℕ → Found Entry
entry_up_to limit n i text = cond (leb n limit) (entry_at n i text) wrong
