-- All that is promised of sets of processes, for every n and every width, and of tables that are padded with zeros. Assumes nothing.
use mathlib.Core.Path.{◌≡◌, refl, ◌∙◌}
use mathlib.Core.Logic.{inl, inr}
use Prim.Native.Nat.{ℕ, ◌-◌, ◌^◌}
use native.Mathlib.Omega.{arith}
use lib.Count.{ones-le}
use lib.ListN.{get_or, replicate, length-replicate, get_or-replicate, get_or-eq_default}
use Rattle.laws.specs.Filled.{Overwritten}
use Rattle.laws.proofs.Counting.{split}
use Rattle.laws.proofs.Overwritten.{over_at, over_past, over_long}
use Rattle.sets.specs.Largest.{largest}
use Rattle.sets.specs.Tables.{padded}
use Rattle.sets.specs.Facts.{SetFacts, WidthFacts, Widths, TableFacts}
use Rattle.sets.proofs.Bits.{within_width, narrow, names_nobody, ones_named, ones_of_others, bit_moved, of_its_bits, set_bits, set_below, everybody_up_to, everybody_named}

pub set_facts : (n : ℕ) → SetFacts n
set_facts n = record {
  ones_named = ones_named n;
  ones_of_others = ones_of_others n;
  nobody_past = names_nobody n;
  bits = λ digit. set_bits digit n;
  below = λ digit. set_below digit n;
  of_its_bits = of_its_bits n;
}

pub width_facts : (width : ℕ) → WidthFacts width
width_facts width = record {
  sets = λ n _. set_facts n;
  word = within_width width;
  everybody = λ n small. within_width width n (2 ^ n - 1) small (everybody_up_to n);
  named = λ n i _ l. everybody_named n i l;
  up_to = narrow width;
  few = ones-le width;
  moved = bit_moved width;
}

pub widths : Widths
widths = record { set = width_facts largest; half = width_facts 32 }

zero_at : (width k : ℕ) → ◌≡◌ {A = ℕ} (get_or (replicate width 0) k 0) 0
zero_at width k =
    let long = length-replicate {A = ℕ} width 0 in
    elim (split width k) [ inl a ↦ get_or-eq_default (replicate width 0) 0 (omega arith) | inr a ↦ get_or-replicate width k 0 0 a ]

pub table_facts : (n : ℕ) (f : ℕ → ℕ) → TableFacts n f
table_facts n f =
    let h : Overwritten n f (replicate largest 0) (padded n f) = record { is = refl } in
    let long = length-replicate {A = ℕ} largest 0 in
    record {
      long = λ small. over_long h (omega arith) ∙ long;
      given = λ k l. over_at h k 0 l;
      zeros = λ k past. over_past h k 0 past ∙ zero_at largest k;
    }
