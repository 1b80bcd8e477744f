-- `with_rest` meets its contract: the row holds its first places already, and the codes of the others are put after them. Assumes nothing.
use Prim.Native.Nat.{ℕ, ◌+◌, ◌-◌, ◌≤◌}
use mathlib.Core.Bool.{cond}
use mathlib.Core.Logic.{inl, inr}
use mathlib.Core.Path.{◌≡◌, sym, ◌∙◌, ap, ap₂}
use mathlib.Core.List.{List, ◌++◌}
use native.Mathlib.Nat.{le_trans, le_of_eq}
use native.Mathlib.Omega.{arith}
use lib.Dec.{ltb}
use lib.ListN.{get_or, take, drop, length, replicate, length-append, length-drop, get_or-append, length-replicate}
use lib.Seq.{ext_get_or, get_or-take, get_or-drop, length-take-le, get_or-append-add}
use borrow.Author.Tests.{lt-ltb, le-ltb}
use borrow.Rule.Slice.PartMut.{put_mid}
use Rattle.std.proofs.lemmas.Slice.{take-put_mid, drop-put_mid}
use Rattle.std.proofs.lemmas.List.{take-append-drop}
use Rattle.laws.specs.Below.{tabulate}
use Rattle.laws.specs.Filled.{Overwritten}
use Rattle.laws.proofs.Counting.{split}
use Rattle.laws.proofs.Lists.{length_tabulate, get_d_tabulate}
use Rattle.laws.proofs.Overwritten.{over_past, over_long}
use Rattle.laws.proofs.Test.{cond_true, cond_false}
use Rattle.sets.specs.Largest.{largest}
use Rattle.sets.specs.Tables.{padded}
use Rattle.delivery.proofs.rows.with_rest.Goals as goal

module _ (start n : ℕ) (row codes : List ℕ) (up : start ≤ n) (high : n ≤ largest) (long : length codes ≡ largest) (cut : row ≡ padded start (λ j. get_or row j 0)) where
  abbrev zeros : List ℕ
  zeros = replicate largest 0

  abbrev rest : List ℕ
  rest = take (n - start) (drop start codes)

  abbrev entry : ℕ → ℕ
  entry j = cond (ltb j start) (get_or row j 0) (get_or codes j 0)

  first : Overwritten start (λ j. get_or row j 0) zeros row
  first = record { is = cut }

  zeros_long : length zeros ≡ largest
  zeros_long = length-replicate {A = ℕ} largest 0

  row_long : length row ≡ largest
  row_long = over_long first (le_trans up (le_trans high (le_of_eq (sym zeros_long)))) ∙ zeros_long

  rest_long : length rest ≡ n - start
  rest_long = length-take-le (n - start) (drop start codes) (omega (arith, length-drop start codes))

  front : take start row ++ rest ≡ tabulate n entry
  front =
      let a = length-take-le start row (omega (arith, row_long)) in
      let b = rest_long in
      let l = length-append (take start row) rest in
      let t = length_tabulate n entry in
      ext_get_or 0 (take start row ++ rest) (tabulate n entry) (omega arith)
      (λ i below. elim (split start i) [
        | inl late ↦
            let at : length (take start row) + (i - start) ≡ i = omega arith in
            ap (λ (j : ℕ). get_or (take start row ++ rest) j 0) (sym at)
            ∙ get_or-append-add (take start row) rest (i - start) 0
            ∙ get_or-take (n - start) (drop start codes) (i - start) 0 (omega arith)
            ∙ get_or-drop start codes (i - start) 0
            ∙ ap (λ (j : ℕ). get_or codes j 0) {x = start + (i - start)} {y = i} (omega arith)
            ∙ sym (cond_false (ltb i start) _ _ (le-ltb i start late))
            ∙ sym (get_d_tabulate n entry i 0 (omega arith))
        | inr early ↦
            get_or-append (take start row) rest 0 i (omega arith)
            ∙ get_or-take start row i 0 early
            ∙ sym (cond_true (ltb i start) _ _ (lt-ltb i start early))
            ∙ sym (get_d_tabulate n entry i 0 (omega arith))
      ])

  behind : drop n row ≡ drop n zeros
  behind =
      let a = length-drop n row in
      let b = length-drop n zeros in
      ext_get_or 0 (drop n row) (drop n zeros) (omega (arith, row_long, zeros_long))
      (λ i below. get_or-drop n row i 0 ∙ over_past first (n + i) 0 (omega arith) ∙ sym (get_or-drop n zeros i 0))

  pub all_entered : put_mid start (n - start) row rest ≡ padded n entry
  all_entered = let w = put_mid start (n - start) row rest in
      sym (take-append-drop n w)
      ∙ ap₂ (λ (x y : List ℕ). x ++ y)
      (take-put_mid start (n - start) row rest n (omega (arith, rest_long)) (omega (arith, row_long)) ∙ front)
      (drop-put_mid start (n - start) row rest n (omega arith) (omega (arith, row_long)) rest_long ∙ behind)

pub returns : goal.returns
returns c =
    record {
      whole = let a = c.args in
          let p = c.requires in
          ap (λ (x : List ℕ). put_mid a.start (a.n - a.start) a.row x) c.copy_from_slice.ensures.after
          ∙ all_entered a.start a.n a.row a.codes.now (omega arith) (omega arith) (omega arith) p.cut;
    }
