-- `read_processes` meets its contract: after i lines their questions are passed, and the tables hold what stands there. Assumes nothing.
use mathlib.Core.Path.{◌≡◌}
use Prim.Native.Nat.{ℕ, ◌+◌, ◌≤◌, ◌<◌}
use Rattle.laws.specs.Answer.{accepted}
use Rattle.lines.specs.Lines.{start_of, after_lines}
use Rattle.text.specs.Reading.{entry_in, entry_questions}
use Rattle.reader.specs.Parts.{Table}
use Rattle.reader.proofs.parts.read_processes.Given as goal

abbrev pub invariant-loop-i : goal.invariant-loop-i
invariant-loop-i l =
    (l.i ≤ l.sizes.n)
    × (l.at ≡ start_of l.text (after_lines (l.i + 3) l.text))
    × ((k : ℕ) → k < l.i → entry_questions l.text k ≡ accepted tt)
    × Table l.i l.entries.votes (λ k. (entry_in l.text k).vote)
    × Table l.i l.entries.crashes (λ k. (entry_in l.text k).crash)
    × Table l.i l.entries.reaches (λ k. (entry_in l.text k).reach)
