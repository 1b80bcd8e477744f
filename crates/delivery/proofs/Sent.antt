-- The messages of a round: n - 1 for each process that completes it and says something, and besides what the crashing senders add; a sender adds as
-- many as a set has bits at most. Assumes nothing.
use mathlib.Core.Path.{◌≡◌, refl, sym, ap, ap₂, ◌∙◌}
use mathlib.Core.List.{List}
use mathlib.Core.Logic.{◌≢◌, ◌⊎◌, inl, inr}
use mathlib.Core.Bool.{Bool, true, false, cond, not}
use Prim.Native.Nat.{ℕ, ◌+◌, ◌-◌, ◌*◌, ◌≤◌, ◌<◌}
use native.Mathlib.Nat.{le_trans, le_of_eq, mul-le-mul, mul-one, mul-zero}
use native.Mathlib.Omega.{arith}
use lib.Count.{ones}
use native.Mathlib.Numerals.{add-one}
use lib.Dec.{eqb}
use lib.ListN.{get_or}
use borrow.Author.Tests.{eqb-true, eqb-false, ne_eqb}
use Rattle.laws.specs.Below.{sum, bit, count}
use Rattle.laws.proofs.Below.{sum_start, sum_step, count_high}
use Rattle.laws.proofs.Test.{true_or_false, cond_true, cond_false}
use Rattle.laws.proofs.Counting.{count_same, below_or_top}
use Rattle.laws.proofs.Sums.{sum_same, sum_high, sum_parts, count_ends}
use Rattle.sets.specs.Largest.{largest}
use Rattle.sets.specs.Tables.{padded}
use Rattle.sets.proofs.Theorem.{table_facts}
use Rattle.member.specs.Saying.{nothing}
use Rattle.run.specs.Run.{completes_round}
use Rattle.run.specs.Report.{sent_by, messages_of}
use Rattle.run.proofs.Rounds.{not_completed, completed, sends_nothing, sends_to_all, sends_to_reach, sends_no_more}
use Rattle.delivery.proofs.Heard.{from_completing}

-- whether a sender that completes the round says something
abbrev speaks : ℕ → ℕ → ℕ → Bool
speaks r c code = not (eqb (cond (completes_round r c) code nothing) nothing)

-- What a sender adds: n - 1 if it completes the round and says something, and besides what it adds where n is 0.
module _ (n r c reach code : ℕ) where
  none_for_silence : cond (completes_round r c) code nothing ≡ nothing → (n - 1) * bit (speaks r c code) ≡ 0
  none_for_silence e = ap (λ (x : ℕ). (n - 1) * bit (not (eqb x nothing))) e ∙ mul-zero (n - 1)

  others_for_speaking : cond (completes_round r c) code nothing ≡ code → code ≢ nothing → (n - 1) * bit (speaks r c code) ≡ n - 1
  others_for_speaking e some =
      ap (λ (x : ℕ). (n - 1) * bit (not (eqb x nothing))) e ∙ ap (λ (b : Bool). (n - 1) * bit (not b)) (ne_eqb code nothing some) ∙ mul-one (n - 1)

  -- of a sender that does not complete the round nothing depends on n
  crashing_same : completes_round r c ≡ false → code ≢ nothing → sent_by n r c reach code ≡ sent_by 0 r c reach code
  crashing_same not_so some =
      elim (true_or_false (eqb c r)) [
        | inl e ↦ sends_to_reach n r c reach code some not_so (eqb-true c r e) ∙ sym (sends_to_reach 0 r c reach code some not_so (eqb-true c r e))
        | inr e ↦ sends_no_more n r c reach code some not_so (eqb-false c r e) ∙ sym (sends_no_more 0 r c reach code some not_so (eqb-false c r e))
      ]

  -- so a sender adds as many as a set has bits at most, if it does where n is 0
  few_at : n ≤ largest → sent_by 0 r c reach code ≤ largest → sent_by n r c reach code ≤ largest
  few_at small few =
      elim (true_or_false (eqb code nothing)) [
        | inl z ↦ let a = sends_nothing n r c reach code (eqb-true code nothing z) in omega arith
        | inr z ↦
            let some = eqb-false code nothing z in
            elim (true_or_false (completes_round r c)) [
              | inl e ↦ let a = sends_to_all n r c reach code some e in omega arith
              | inr e ↦ let a = crashing_same e some in omega arith
            ]
      ]

  pub sent_parts : sent_by n r c reach code ≡ (n - 1) * bit (speaks r c code) + sent_by 0 r c reach code
  sent_parts =
      elim (true_or_false (eqb code nothing)) [
        | inl z ↦
            let mute = eqb-true code nothing z in
            let a = sends_nothing n r c reach code mute in
            let b = sends_nothing 0 r c reach code mute in
            let d = none_for_silence (ap (λ (x : ℕ). cond (completes_round r c) x nothing) mute ∙ cond_same (completes_round r c)) in
            omega arith
        | inr z ↦
            let some = eqb-false code nothing z in
            elim (true_or_false (completes_round r c)) [
              | inl e ↦
                  let a = sends_to_all n r c reach code some e in
                  let b = sends_to_all 0 r c reach code some e in
                  let d = others_for_speaking (cond_true (completes_round r c) code nothing e) some in
                  omega arith
              | inr e ↦
                  let a = crashing_same e some in
                  let d = none_for_silence (cond_false (completes_round r c) code nothing e) in
                  omega arith
            ]
      ]
    where
      cond_same : (b : Bool) → cond b nothing nothing ≡ nothing
      cond_same true = refl
      cond_same false = refl

-- A sender that does not crash in the round adds nothing where n is 0, and one that does the ones of its reach.
module _ (r c reach code : ℕ) where
  completing_adds : c ≡ 0 → 0 ≡ sent_by 0 r c reach code
  completing_adds never =
      elim (true_or_false (eqb code nothing)) [
        | inl z ↦ sym (sends_nothing 0 r c reach code (eqb-true code nothing z))
        | inr z ↦ sym (sends_to_all 0 r c reach code (eqb-false code nothing z) (completed r c (inl never)))
      ]

  other_adds : c ≢ r → 0 ≡ sent_by 0 r c reach code
  other_adds other =
      elim (true_or_false (eqb code nothing)) [
        | inl z ↦ sym (sends_nothing 0 r c reach code (eqb-true code nothing z))
        | inr z ↦
            elim (true_or_false (completes_round r c)) [
              | inl e ↦ sym (sends_to_all 0 r c reach code (eqb-false code nothing z) e)
              | inr e ↦ sym (sends_no_more 0 r c reach code (eqb-false code nothing z) e other)
            ]
      ]

  pub nothing_added : (c ≡ 0) ⊎ (c ≢ r) → 0 ≡ sent_by 0 r c reach code
  nothing_added (inl never) = completing_adds never
  nothing_added (inr other) = other_adds other

  pub silence_added : code ≡ nothing → 0 ≡ sent_by 0 r c reach code
  silence_added e = sym (sends_nothing 0 r c reach code e)

  pub reach_added : code ≢ nothing → c ≢ 0 → c ≡ r → ones reach ≡ sent_by 0 r c reach code
  reach_added some crashes now = sym (sends_to_reach 0 r c reach code some (not_completed r c (omega arith) (omega arith)) now)

-- how many speak, of a row of n codes with zeros after them
speakers_are : (n : ℕ) (f : ℕ → ℕ) {row : List ℕ} → n ≤ largest → row ≡ padded n f
    → count largest (λ j. not (eqb (get_or row j 0) nothing)) ≡ count n (λ j. not (eqb (f j) nothing))
speakers_are n f {row} small e =
    let facts = table_facts n f in
    ap (λ (codes : List ℕ). count largest (λ j. not (eqb (get_or codes j 0) nothing))) e
    ∙ count_ends largest n (λ j. not (eqb (get_or (padded n f) j 0) nothing)) small (λ j past. ap (λ (x : ℕ). not (eqb x nothing)) (facts.zeros j past))
    ∙ count_same n _ _ (λ j l. ap (λ (x : ℕ). not (eqb x nothing)) (facts.given j l))

pub completing_few : (copies : ℕ) {speaking : ℕ} (p : ℕ → Bool) → copies ≤ largest → speaking ≡ count largest p → copies * speaking ≤ largest * largest
completing_few copies p small e = mul-le-mul small (le_trans (le_of_eq e) (count_high largest p))

-- All of them: n - 1 for each that speaks, and what the crashing senders add.
module _ (crashes reaches codes : List ℕ) (r : ℕ) where
  abbrev pub crashing_adds : ℕ → ℕ
  crashing_adds j = sent_by 0 r (get_or crashes j 0) (get_or reaches j 0) (get_or codes j 0)

  pub all_sent : (size n : ℕ) {copies speaking messages j : ℕ} {row : List ℕ} → n ≡ size → n ≤ largest → copies ≡ n - 1 → row ≡ padded n (from_completing crashes reaches codes r)
      → speaking ≡ count largest (λ k. not (eqb (get_or row k 0) nothing)) → messages ≡ copies * speaking + sum j crashing_adds → j ≡ n
      → messages ≡ messages_of crashes reaches r (λ k. get_or codes k 0) size
  all_sent size n {speaking = speaking} {j = j} same small wire row speak so_far end =
      so_far
      ∙ ap (λ (x : ℕ). x * speaking + sum j crashing_adds) wire
      ∙ ap₂ (λ (x k : ℕ). (n - 1) * x + sum k crashing_adds) (speak ∙ speakers_are n (from_completing crashes reaches codes r) small row) end
      ∙ sym (sum_parts (n - 1) n (λ k. speaks r (get_or crashes k 0) (get_or codes k 0)) crashing_adds)
      ∙ sym (sum_same n _ _ (λ k l. sent_parts n r (get_or crashes k 0) (get_or reaches k 0) (get_or codes k 0)))
      ∙ ap (messages_of crashes reaches r (λ k. get_or codes k 0)) same

  -- of the first n senders, each adds as many as a set has bits at most
  abbrev pub FewAdded : ℕ → Type 0
  FewAdded n = (j : ℕ) → j < n → crashing_adds j ≤ largest

  pub few_more : (j : ℕ) {sent : ℕ} → FewAdded j → sent ≡ crashing_adds j → sent ≤ largest → FewAdded (j + 1)
  few_more j few added low = rw (add-one j) (below_or_top (λ (k : ℕ). crashing_adds k ≤ largest) j few (le_trans (le_of_eq (sym added)) low))

  pub sent_low : (n : ℕ) → n ≤ largest → FewAdded n → messages_of crashes reaches r (λ k. get_or codes k 0) n ≤ largest * largest
  sent_low n small few =
      let high = sum_high n largest _ (λ j l. few_at n r (get_or crashes j 0) (get_or reaches j 0) (get_or codes j 0) small (few j l)) in
      omega arith

  pub so_far_start : (first : ℕ) → first ≡ first + sum 0 crashing_adds
  so_far_start first = let e = sum_start crashing_adds in omega arith

  pub so_far_more : (first j : ℕ) {messages sent : ℕ} → messages ≡ first + sum j crashing_adds → sent ≡ crashing_adds j → messages + sent ≡ first + sum (j + 1) crashing_adds
  so_far_more first j {sent = sent} e added = let next = sum_step j crashing_adds (sum j crashing_adds) sent refl added in omega arith
