-- `reach_field` meets its contract: the letters are counted and the end is asked for as the definition does, and the reach is their number.
-- Assumes nothing.
use mathlib.Core.Path.{◌≡◌, sym, ap, ◌∙◌}
use Prim.Native.Nat.{ℕ, ◌-◌}
use native.Mathlib.Omega.{arith}
use lib.ListN.{get_or}
use Rattle.fields.specs.Decimal.{letter}
use Rattle.sets.specs.Largest.{largest}
use Rattle.sets.specs.Sets.{set_of}
use Rattle.fields.specs.Fields.{ended, reach_up_to}
use Rattle.fields.proofs.Forms.{reach_long, reach_letters, reach_ended}
use Rattle.fields.proofs.reach_field.Goals as goal
use Rattle.fields.proofs.reach_field.Goals.{Else-letter_count-n}

pub returns-then-n-gt-WIDTH : goal.returns-then-n-gt-WIDTH
returns-then-n-gt-WIDTH c =
    let a = c.args in record { read = sym (reach_long a.end a.text.now largest a.n (omega arith)); within = tt }

pub returns-then-letter_count-n : goal.returns-then-letter_count-n
returns-then-letter_count-n c =
    let a = c.args in
    let letters = c.letter_count in
    record { read = sym (reach_letters a.end a.text.now largest a.n letters.result letters.ensures.counted (omega arith) (λ e. omega arith)); within = tt }

-- every letter is right, so what is left to ask is the end
all_right : (c : Else-letter_count-n)
    → let a = c.args in
    reach_up_to a.end a.text.now largest a.n ≡ ended a.end a.text.now (set_of a.n (λ j. get_or a.text.now j 0 - letter 0)) a.n
all_right c =
    let a = c.args in
    let letters = c.letter_count in
    reach_ended a.end a.text.now largest a.n letters.result letters.ensures.counted (omega arith) (omega arith)

pub returns : goal.returns
returns c =
    let a = c.args in
    let whole = all_right (goal.at.returns c).Else-letter_count-n in
    record { read = c.ended.ensures.read ∙ ap (λ (reach : ℕ). ended a.end a.text.now reach a.n) c.reach_value.ensures.summed ∙ sym whole; within = c.ended.ensures.within }
