-- `line_end` meets its contract: the line ends at the first LF from `at` on, and where there is none, with the text. Assumes nothing.
use mathlib.Core.Path.{◌≡◌}
use native.Mathlib.Omega.{arith}
use lib.ListN.{length, drop, take}
use lib.Dec.{eqb}
use Prim.Native.Nat.{◌-◌}
use Rattle.std.proofs.Common.{rules, tests}
use Rattle.std.proofs.lemmas.Iterator.{YieldsList-from_slice}
use Rattle.std.proofs.lemmas.Iterator.Search.{position_from_yields_List}
use Rattle.std.specs.List.{position}
use Rattle.lines.specs.Lines.{lf}
use Rattle.lines.proofs.Parts.{first_line, rest_part}
use Rattle.lines.proofs.line_end.Goals as goal

pub returns-clause-ended : goal.returns-clause-ended
returns-clause-ended c =
    let text = c.args.text.now in
    let at = c.args.at in
    let rest = take (length text - at) (drop at text) in
    let found : c.position.result ≡ position (λ b. eqb b lf) rest =
    position_from_yields_List (λ b. eqb b lf) _ _ c.position.result c.position.ensures.ran (YieldsList-from_slice _ c.iter.ensures.rest) (λ x b q k. search (rules, tests)) in
    rw (← rest_part text at) (omega (arith, first_line rest c.position.result found))
