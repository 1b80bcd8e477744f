-- `read_process` meets its contract: each field that is found hands the text after it to the next. Assumes nothing.
use Rattle.std.proofs.Common.{◌≡◌, ◌+◌, sym, refl, ◌∙◌}
use native.Mathlib.Omega.{arith}
use Rattle.fields.specs.Found.{found}
use Rattle.sets.specs.Largest.{largest}
use Rattle.fields.specs.Fields.{space, number_field, digit_field}
use Rattle.forms.proofs.LineForms.{field_found, no_id, other_id, no_vote, no_crash, no_reach, whole_entry}
use Rattle.forms.proofs.read_process.Goals as goal
use Rattle.forms.proofs.read_process.Goals.{After-from-after_crash, After-from-after_id, After-from-after_vote}

pub returns-in_err-id : goal.returns-in_err-id
returns-in_err-id c =
    record { read = c.from_residual.ensures ∙ no_id _ largest _ _ (sym c.in_err-id.ensures.read) }

-- no process has number 0
pub returns-then-id-eq0 : goal.returns-then-id-eq0
returns-then-id-eq0 c =
    record { read = other_id _ largest _ _ (field_found c.in_ok-id.ensures.read refl) (λ e. omega arith) }

pub returns-then-id-i : goal.returns-then-id-i
returns-then-id-i c =
    record { read = other_id _ largest _ _ (field_found c.in_ok-id.ensures.read refl) (λ e. omega arith) }

-- the own number, as it should be
own_number : (c : After-from-after_id) → let a = c.args in number_field space a.text.now ≡ found c.in_ok-id.id.value c.from-after_id.result.now
own_number c = field_found c.in_ok-id.ensures.read c.from-after_id.ensures.part

own_place : (c : After-from-after_id) → c.in_ok-id.id.value ≡ c.args.i + 1
own_place c = omega arith

pub returns-in_err-vote : goal.returns-in_err-vote
returns-in_err-vote c =
    let at = (goal.at.returns-in_err-vote c).After-from-after_id in
    record { read = c.from_residual-in_err-vote.ensures ∙ no_vote _ largest _ _ (own_number at) (own_place at) (sym c.in_err-vote.ensures.read) }

vote : (c : After-from-after_vote) → digit_field space c.from-after_id.result.now ≡ found c.in_ok-vote.vote.value c.from-after_vote.result.now
vote c = field_found c.in_ok-vote.ensures.read c.from-after_vote.ensures.part

pub returns-in_err-crash : goal.returns-in_err-crash
returns-in_err-crash c =
    let at = (goal.at.returns-in_err-crash c).After-from-after_id in
    record { read = c.from_residual-in_err-crash.ensures ∙ no_crash _ largest _ _ (own_number at) (own_place at) (vote (goal.at.returns-in_err-crash c).After-from-after_vote) (sym c.in_err-crash.ensures.read) }

-- the crash round
crash : (c : After-from-after_crash) → number_field space c.from-after_vote.result.now ≡ found c.in_ok-crash.crash.value c.from-after_crash.result.now
crash c = field_found c.in_ok-crash.ensures.read c.from-after_crash.ensures.part

pub returns-in_err-reach : goal.returns-in_err-reach
returns-in_err-reach c =
    let at = (goal.at.returns-in_err-reach c).After-from-after_id in
    record { read = c.from_residual-in_err-reach.ensures ∙ no_reach _ largest _ _ (own_number at) (own_place at) (vote (goal.at.returns-in_err-reach c).After-from-after_vote) (crash (goal.at.returns-in_err-reach c).After-from-after_crash) (sym c.in_err-reach.ensures.read) }

pub returns : goal.returns
returns c =
    let at = (goal.at.returns c).After-from-after_id in
    record { read = whole_entry _ largest _ _ (own_number at) (own_place at) (vote (goal.at.returns c).After-from-after_vote) (crash (goal.at.returns c).After-from-after_crash) (field_found c.in_ok-reach.ensures.read refl) }
