-- `codes_of` meets its contract: each entry is what one member says. Assumes nothing.
use mathlib.Core.Path.{◌≡◌, sym, ◌∙◌}
use Prim.Native.Nat.{ℕ, ◌<◌}
use lib.ListN.{get_or}
use Rattle.std.proofs.Common.{rules}
use Rattle.std.proofs.lemmas.List.{append-nil}
use Rattle.sets.specs.Largest.{largest}
use Rattle.laws.proofs.Filled.{filled_list}
use Rattle.run.specs.Protocol.{nobody}
use Rattle.run.specs.Run.{code_said}
use Rattle.execution.specs.Calls.{calls}
use Rattle.explanation.proofs.own.codes_of.Goals as goal

pub returns : goal.returns
returns c =
    let items = c.map.ensures.items in
    let at : (k : ℕ) → k < largest → get_or c.map.result k 0 ≡ code_said calls c.args.members k =
    λ k l. (let h = items.at k nobody 0 l in let called = h.2 in search rules) in
    record { said = record { is = filled_list {d = 0} items.long record { long = items.long; at = at } ∙ sym (append-nil _) } }
