-- `put_decided` meets its contract: its parts are written in the order of their definition. Assumes nothing.
use mathlib.Core.Path.{ap}
use mathlib.Core.List.{[], ◌∷◌}
use Prim.Native.Nat.{ℕ}
use Rattle.buffer.proofs.Puts.{puts_same, puts_more}
use Rattle.report.proofs.put_decided.Goals as goal

pub returns : goal.returns
returns c =
    record {
      written = let letter = puts_same (ap (λ (x : ℕ). x ∷ []) c.decision_letter.ensures.is) c.put_byte.ensures.written in
          puts_more _ _ (puts_more _ _ letter c.put_byte-2.ensures.written) c.put_field.ensures.written;
    }
