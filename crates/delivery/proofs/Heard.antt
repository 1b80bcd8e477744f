-- The rows of a round, as the code forms them: first the codes of the processes that complete the round, which all hear, then, one after the other,
-- those of the senders that crash in it, which the processes of their reach hear. Assumes nothing.
use mathlib.Core.Path.{◌≡◌, sym, ap, ◌∙◌}
use mathlib.Core.Logic.{◌≢◌, ◌⊎◌, inl, inr}
use mathlib.Core.List.{List, [], ◌++◌}
use mathlib.Core.Bool.{Bool, cond, ◌&&◌}
use Prim.Native.Nat.{ℕ, ◌+◌, ◌≤◌, ◌<◌, min, zero-le}
use native.Mathlib.Omega.{arith}
use lib.Dec.{eqb, ltb}
use lib.ListN.{length, get_or, set, drop, replicate, length-set, get_or-eq_default}
use lib.Seq.{ext_get_or, set-append_left, get_or-set_same, get_or-set_other}
use borrow.Author.Tests.{eq-eqb, ne_eqb, eqb-true, eqb-false, lt-ltb, le-ltb}
use Rattle.laws.specs.Below.{tabulate}
use Rattle.laws.specs.Filled.{Overwritten}
use Rattle.laws.proofs.Test.{true_or_false, cond_true, cond_false, and_goes_on, and_no_left, or_left, or_goes_on, or_neither}
use Rattle.laws.proofs.Counting.{split}
use Rattle.laws.proofs.Lists.{length_tabulate, get_d_tabulate, tabulate_same}
use Rattle.laws.proofs.Overwritten.{over_at, over_so, over_self, over_again}
use Rattle.sets.specs.Largest.{largest}
use Rattle.sets.specs.Sets.{names}
use Rattle.sets.specs.Tables.{padded}
use Rattle.member.specs.Saying.{nothing}
use Rattle.delivery.specs.Delivery.{Entered}
use Rattle.run.specs.Run.{completes_round, is_heard, delivered, heard_from}
use Rattle.run.proofs.Rounds.{not_completed, completed}

-- What i hears from a process with this crash round, reach and code.
module _ (r i c reach code : ℕ) where
  -- one that crashes in the round: the code, if its reach names i
  pub heard_crashing : c ≢ 0 → c ≡ r → cond (names reach i) code nothing ≡ delivered r i c reach code
  unfolding delivered is_heard
  heard_crashing other same =
      ap (λ (b : Bool). cond b code nothing)
      (and_goes_on (eqb c r) (names reach i) (eq-eqb c r same) ∙ or_goes_on (completes_round r c) (eqb c r && names reach i) (not_completed r c (omega arith) (omega arith)))

  completing_is_heard : (c ≡ 0) ⊎ (c ≢ r) → completes_round r c ≡ is_heard r i c reach
  unfolding is_heard
  completing_is_heard (inl never) = completed r c (inl never) ∙ sym (or_left (completes_round r c) (eqb c r && names reach i) (completed r c (inl never)))
  completing_is_heard (inr other) =
      elim (true_or_false (completes_round r c)) [
        | inl e ↦ e ∙ sym (or_left (completes_round r c) (eqb c r && names reach i) e)
        | inr e ↦ e ∙ sym (or_neither (completes_round r c) (eqb c r && names reach i) e (and_no_left (eqb c r) (names reach i) (ne_eqb c r other)))
      ]

  -- any other: the code, if it completes the round
  pub heard_other : (c ≡ 0) ⊎ (c ≢ r) → cond (completes_round r c) code nothing ≡ delivered r i c reach code
  unfolding delivered
  heard_other other = ap (λ (b : Bool). cond b code nothing) (completing_is_heard other)

-- the code of a process that completes the round, of a crash round that was read from the table
pub completing_code : (r code c : ℕ) {b : Bool} {crash : ℕ} → b ≡ completes_round r crash → crash ≡ c → cond b code nothing ≡ cond (completes_round r c) code nothing
completing_code r code c e same = ap (λ (x : Bool). cond x code nothing) (e ∙ ap (completes_round r) same)

-- the codes of all that complete the round, where those that have a crash round in the table were entered in a row, and then the rest, which never crash
module _ (r n known : ℕ) (crashes codes row : List ℕ) (all : known ≡ min n (length crashes)) where
  abbrev completing : ℕ → ℕ
  completing j = cond (completes_round r (get_or crashes j 0)) (get_or codes j 0) nothing

  pub completing_rest : {whole : List ℕ} → Overwritten known completing (replicate largest 0) row
      → whole ≡ padded n (λ j. cond (ltb j known) (get_or row j 0) (get_or codes j 0)) → whole ≡ padded n completing
  completing_rest over e = (over_so (record { is = e }) each).is
    where
      each : (j : ℕ) → j < n → cond (ltb j known) (get_or row j 0) (get_or codes j 0) ≡ completing j
      each j l =
          elim (split known j) [
            | inr h ↦ cond_true (ltb j known) _ _ (lt-ltb j known h) ∙ over_at over j 0 h
            | inl h ↦
                cond_false (ltb j known) _ _ (le-ltb j known h)
                ∙ sym (cond_true _ _ _ (completed r (get_or crashes j 0) (inl (get_or-eq_default crashes 0 (omega arith)))))
          ]

-- a table with one entry changed
set_tabulate : (n : ℕ) (f g : ℕ → ℕ) (j x : ℕ) → j < n → x ≡ g j → ((k : ℕ) → k ≢ j → f k ≡ g k) → set (tabulate n f) j x ≡ tabulate n g
set_tabulate n f g j x l here others =
    let a = length_tabulate n f in
    let b = length_tabulate n g in
    let c = length-set (tabulate n f) j x in
    ext_get_or 0 (set (tabulate n f) j x) (tabulate n g) (c ∙ a ∙ sym b)
    (λ k h. elim (true_or_false (eqb k j)) [
      | inl e ↦ rw (eqb-true k j e) (get_or-set_same (tabulate n f) j x 0 (omega arith) ∙ here ∙ sym (get_d_tabulate n g j 0 l))
      | inr e ↦
          get_or-set_other (tabulate n f) j k x 0 (eqb-false k j e)
          ∙ get_d_tabulate n f k 0 (omega arith)
          ∙ others k (eqb-false k j e)
          ∙ sym (get_d_tabulate n g k 0 (omega arith))
    ])

set_padded : (n : ℕ) (f g : ℕ → ℕ) (j x : ℕ) → j < n → x ≡ g j → ((k : ℕ) → k ≢ j → f k ≡ g k) → set (padded n f) j x ≡ padded n g
set_padded n f g j x l here others =
    let a = length_tabulate n f in
    set-append_left (tabulate n f) (drop n (replicate largest 0)) j x (omega arith)
    ∙ ap (λ (front : List ℕ). front ++ drop n (replicate largest 0)) (set_tabulate n f g j x l here others)

padded_same : (n : ℕ) (f g : ℕ → ℕ) → ((k : ℕ) → k < n → f k ≡ g k) → padded n f ≡ padded n g
padded_same n f g same = ap (λ (front : List ℕ). front ++ drop n (replicate largest 0)) (tabulate_same n f g same)

-- The rows of n processes while the code forms them, after the first j senders were looked at.
module _ (crashes reaches codes : List ℕ) (r : ℕ) where
  abbrev heard : ℕ → ℕ → ℕ
  heard = heard_from crashes reaches r (λ k. get_or codes k 0)

  abbrev pub from_completing : ℕ → ℕ
  from_completing k = cond (completes_round r (get_or crashes k 0)) (get_or codes k 0) nothing

  abbrev so_far : ℕ → ℕ → ℕ → ℕ
  so_far j i k = cond (ltb k j) (heard i k) (from_completing k)

  abbrev pub RowsSoFar : ℕ → ℕ → List (List ℕ) → List (List ℕ) → Type 0
  RowsSoFar n j before now = Overwritten n (λ (i : ℕ). padded n (so_far j i)) before now

  looked_at : (j i k : ℕ) → k < j → so_far j i k ≡ heard i k
  looked_at j i k l = cond_true (ltb k j) (heard i k) (from_completing k) (lt-ltb k j l)

  not_yet : (j i k : ℕ) → j ≤ k → so_far j i k ≡ from_completing k
  not_yet j i k l = cond_false (ltb k j) (heard i k) (from_completing k) (le-ltb k j l)

  -- one sender more changes nothing of the others
  others_same : (j i k : ℕ) → k ≢ j → so_far j i k ≡ so_far (j + 1) i k
  others_same j i k other =
      elim (split j k) [
        | inl a ↦ not_yet j i k a ∙ sym (not_yet (j + 1) i k (omega arith))
        | inr a ↦ looked_at j i k a ∙ sym (looked_at (j + 1) i k (omega arith))
      ]

  pub rows_start : {n : ℕ} {row : List ℕ} {grid now : List (List ℕ)} → row ≡ padded n from_completing → Overwritten n (λ (_ : ℕ). row) grid now → RowsSoFar n 0 now now
  rows_start {n} e h = over_so (over_self h) (λ i l. e ∙ padded_same n _ _ (λ k b. sym (not_yet 0 i k zero-le)))

  module _ {n j : ℕ} {before grid : List (List ℕ)} (l : j < n) (h : RowsSoFar n j before grid) where
    -- a sender that crashes in the round is entered in each row
    entered : {now : List (List ℕ)} → get_or crashes j 0 ≢ 0 → get_or crashes j 0 ≡ r
        → Overwritten n (λ (i : ℕ). set (get_or grid i []) j (cond (names (get_or reaches j 0) i) (get_or codes j 0) nothing)) grid now → RowsSoFar n (j + 1) before now
    entered some same e =
        over_so (over_again h e)
        (λ i b.
        ap (λ (row : List ℕ). set row j (cond (names (get_or reaches j 0) i) (get_or codes j 0) nothing)) (over_at h i [] b)
        ∙ set_padded n (so_far j i) (so_far (j + 1) i) j _ l
        (heard_crashing r i (get_or crashes j 0) (get_or reaches j 0) (get_or codes j 0) some same ∙ sym (looked_at (j + 1) i j (omega arith)))
        (λ k other. others_same j i k other))

    -- any other is heard as it stands
    passed_over : (get_or crashes j 0 ≡ 0) ⊎ (get_or crashes j 0 ≢ r) → RowsSoFar n (j + 1) before grid
    passed_over other =
        over_so h
        (λ i b. padded_same n _ _ (λ k a. elim (true_or_false (eqb k j)) [
          | inl e ↦
              rw (eqb-true k j e)
              (not_yet j i j (omega arith)
              ∙ heard_other r i (get_or crashes j 0) (get_or reaches j 0) (get_or codes j 0) other
              ∙ sym (looked_at (j + 1) i j (omega arith)))
          | inr e ↦ others_same j i k (eqb-false k j e)
        ]))

    pub rows_more : {now : List (List ℕ)} → Entered n r j (get_or codes j 0) (get_or crashes j 0) (get_or reaches j 0) grid now → RowsSoFar n (j + 1) before now
    rows_more {now} e =
        elim (true_or_false (eqb (get_or crashes j 0) 0)) [
          | inl z ↦ unchanged (inl (eqb-true _ _ z))
          | inr z ↦
              elim (true_or_false (eqb (get_or crashes j 0) r)) [
                | inl same ↦ entered (eqb-false _ _ z) (eqb-true _ _ same) (e.crashing (eqb-false _ _ z) (eqb-true _ _ same))
                | inr other ↦ unchanged (inr (eqb-false _ _ other))
              ]
        ]
      where
        unchanged : (get_or crashes j 0 ≡ 0) ⊎ (get_or crashes j 0 ≢ r) → RowsSoFar n (j + 1) before now
        unchanged other = rw (e.other other) (passed_over other)

  -- the loop over the senders is at its end
  pub rows_end : (size : ℕ) {n j : ℕ} {start before grid : List (List ℕ)} {f : ℕ → List ℕ} → n ≡ size → n ≤ j → Overwritten n f start before
      → RowsSoFar n j before grid → Overwritten size (λ (i : ℕ). padded size (heard i)) start grid
  rows_end size {n} {j} same past first h =
      rw (← same) (over_again first (over_so h (λ i b. padded_same n _ _ (λ k a. looked_at j i k (omega arith)))))
