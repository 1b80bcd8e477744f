-- `put_letters` meets its contract: after j places their letters are written. Assumes nothing.
use mathlib.Core.Path.{◌≡◌, refl, sym, ap}
use mathlib.Core.List.{[], ◌∷◌, ◌++◌}
use Prim.Native.Nat.{ℕ, ◌+◌}
use native.Mathlib.Numerals.{add-one}
use Rattle.laws.specs.Below.{bit, tabulate}
use Rattle.sets.specs.Sets.{names}
use Rattle.fields.specs.Decimal.{letter}
use Rattle.text.specs.Written.{letters_of}
use Rattle.buffer.proofs.Puts.{puts_none, puts_same, puts_more}
use Rattle.writer.proofs.processes.put_letters.Goals as goal
use Rattle.writer.proofs.processes.put_letters.Goals.{then-is_named, else-is_named}

-- no letters, and one more
no_letters : (reach : ℕ) → [] ≡ letters_of 0 reach
unfolding letters_of tabulate
no_letters reach = refl

one_letter : (reach j : ℕ) → letters_of j reach ++ (letter (bit (names reach j)) ∷ []) ≡ letters_of (j + 1) reach
unfolding letters_of tabulate
one_letter reach j = ap (λ (k : ℕ). letters_of k reach) (sym (add-one j))

pub loop-j-init : goal.loop-j-init
loop-j-init c =
    puts_same (no_letters _) (puts_none _)

pub loop-j-preserved : goal.loop-j-preserved
loop-j-preserved c =
    let reach = c.args.reach in
    let right : c.if-is_named.letter ≡ letter (bit (names reach c.loop-j.j)) =
    elim c.if-is_named.branch [
      | then-is_named w ↦ rw (← c.is_named.ensures.tested, w.if-is_named.true) w.letter-is
      | else-is_named w ↦ rw (← c.is_named.ensures.tested, w.if-is_named.false) w.letter-is
    ] in
    let byte = puts_same (ap (λ (x : ℕ). x ∷ []) right) c.put_byte.ensures.written in
    puts_same (one_letter reach c.loop-j.j) (puts_more _ _ c.loop-j.invariant byte)
