-- `read_sizes` meets its contract: each field that is found hands the text after it to the next. Assumes nothing.
use Rattle.std.proofs.Common.{◌≡◌, sym, refl, ◌∙◌}
use Rattle.fields.specs.Found.{found}
use Rattle.fields.specs.Fields.{space, number_field}
use Rattle.forms.proofs.LineForms.{field_found, no_n, no_t, both_sizes}
use Rattle.forms.proofs.read_sizes.Goals as goal
use Rattle.forms.proofs.read_sizes.Goals.{After-from}

pub returns-in_err-n : goal.returns-in_err-n
returns-in_err-n c =
    record { read = c.from_residual.ensures ∙ no_n _ (sym c.in_err-n.ensures.read) }

-- the first number
first : (c : After-from) → let a = c.args in number_field space a.text.now ≡ found c.in_ok-n.n.value c.from.result.now
first c = field_found c.in_ok-n.ensures.read c.from.ensures.part

pub returns-in_err-t : goal.returns-in_err-t
returns-in_err-t c =
    record { read = c.from_residual-in_err-t.ensures ∙ no_t _ (first (goal.at.returns-in_err-t c).After-from) (sym c.in_err-t.ensures.read) }

pub returns : goal.returns
returns c =
    record { read = both_sizes _ (first (goal.at.returns c).After-from) (field_found c.in_ok-t.ensures.read refl) }
