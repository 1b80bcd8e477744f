-- The lines of values: what is written of numbers of at most two digits is read as them, and what is read was written so. Assumes nothing.
use mathlib.Core.Path.{◌≡◌, refl, sym, ap, ap₂, ◌∙◌}
use mathlib.Core.List.{List, ◌∷◌, ◌++◌}
use mathlib.Core.Bool.{false}
use Prim.Native.Nat.{ℕ, ◌+◌, ◌^◌, ◌≤◌, ◌<◌}
use native.Mathlib.Omega.{arith}
use borrow.Author.Tests.{eq-eqb, eqb-true}
use lib.Dec.{eqb}
use Rattle.laws.specs.Test.{within}
use Rattle.laws.proofs.Test.{cond_true}
use Rattle.lines.specs.Lines.{lf}
use Rattle.fields.specs.Found.{found, wrong, then_read}
use Rattle.fields.specs.Decimal.{decimal, is_digit}
use Rattle.fields.specs.Fields.{space, number_field, digit_field, reach_field}
use Rattle.fields.proofs.Written.{found_if, then_found, number_reads, number_written, digit_reads, digit_written}
use Rattle.text.specs.declared.Sizes.{Sizes}
use Rattle.text.specs.declared.Entry.{Entry}
use Rattle.text.specs.Forms.{sizes_at, entry_at}
use Rattle.text.specs.Written.{sizes_line, process_line}
use Rattle.text.proofs.Letters.{reach_reads, reach_written}
use Rattle.text.proofs.Lines.{sizes_parts, process_parts}

no_digits : (is_digit space ≡ false) × (is_digit lf ≡ false)
unfolding is_digit within
no_digits = (refl, refl)

pub sizes_reads : (n t : ℕ) (rest : List ℕ) → n ≤ 99 → t ≤ 99 → sizes_at (sizes_line n t ++ rest) ≡ found (record { n = n; t = t }) rest
unfolding sizes_at then_read
sizes_reads n t rest hn ht =
    rw (
      sizes_parts rest n t,
      number_reads space no_digits.0 n (decimal t ++ (lf ∷ rest)) hn,
      number_reads lf no_digits.1 t rest ht,
    )

pub entry_reads : (n i vote crash reach : ℕ) (rest : List ℕ) → i < 99 → vote ≤ 9 → crash ≤ 99 → reach < 2 ^ n
    → entry_at n i (process_line n i vote crash reach ++ rest) ≡ found (record { vote = vote; crash = crash; reach = reach }) rest
unfolding entry_at then_read
entry_reads n i vote crash reach rest hi hv hc hr =
    rw (process_parts rest n i vote crash reach, number_reads space no_digits.0 (i + 1) _ (omega arith))
    (cond_true _ _ wrong (eq-eqb (i + 1) _ (omega arith))
    ∙ rw (digit_reads space vote _ hv, number_reads space no_digits.0 crash _ hc, reach_reads lf n reach rest hr))

pub sizes_written : (text : List ℕ) (z : Sizes) (rest : List ℕ) → sizes_at text ≡ found z rest → text ≡ sizes_line z.n z.t ++ rest
unfolding sizes_at
sizes_written text z rest e =
    let n = then_found (number_field space text) _ z rest e in
    let t = then_found (number_field lf n.1) _ z rest n.3 in
    let last : found (record { n = n.0; t = t.0 }) t.1 ≡ found z rest = t.3 in
    let sizes : record { n = n.0; t = t.0 } ≡ z = cc in
    let left : t.1 ≡ rest = cc in
    number_written space text n.0 n.1 n.2
    ∙ ap (λ (l : List ℕ). decimal n.0 ++ (space ∷ l)) (number_written lf n.1 t.0 t.1 t.2)
    ∙ sym (sizes_parts t.1 n.0 t.0)
    ∙ ap₂ (λ (x : Sizes) (l : List ℕ). sizes_line x.n x.t ++ l) sizes left

pub entry_written : (n i : ℕ) (text : List ℕ) (z : Entry) (rest : List ℕ) → entry_at n i text ≡ found z rest
    → text ≡ process_line n i z.vote z.crash z.reach ++ rest
unfolding entry_at
entry_written n i text z rest e =
    let id = then_found (number_field space text) _ z rest e in
    let own = found_if z rest (eqb id.0 (i + 1)) _ id.3 in
    let vote = then_found (digit_field space id.1) _ z rest own.1 in
    let crash = then_found (number_field space vote.1) _ z rest vote.3 in
    let reach = then_found (reach_field lf crash.1 n) _ z rest crash.3 in
    let last : found (record { vote = vote.0; crash = crash.0; reach = reach.0 }) reach.1 ≡ found z rest = reach.3 in
    let entry : record { vote = vote.0; crash = crash.0; reach = reach.0 } ≡ z = cc in
    let left : reach.1 ≡ rest = cc in
    number_written space text id.0 id.1 id.2
    ∙ ap₂ (λ (x : ℕ) (l : List ℕ). decimal x ++ (space ∷ l)) (eqb-true id.0 (i + 1) own.0)
    (digit_written space id.1 vote.0 vote.1 vote.2
    ∙ ap (λ (l : List ℕ). decimal vote.0 ++ (space ∷ l))
    (number_written space vote.1 crash.0 crash.1 crash.2
    ∙ ap (λ (l : List ℕ). decimal crash.0 ++ (space ∷ l)) (reach_written lf crash.1 n reach.0 reach.1 reach.2)))
    ∙ sym (process_parts reach.1 n i vote.0 crash.0 reach.0)
    ∙ ap₂ (λ (x : Entry) (l : List ℕ). process_line n i x.vote x.crash x.reach ++ l) entry left
