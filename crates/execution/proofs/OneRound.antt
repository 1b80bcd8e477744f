-- One round of the code is one round of the definitions: the first n codes of a row in the grid are the row of its process, and the codes are what the
-- members say. The codes of the next round are entered as the members are. Assumes nothing.
use mathlib.Core.Path.{◌≡◌, sym, ap, ◌∙◌}
use mathlib.Core.List.{List, [], ◌++◌}
use Prim.Native.Nat.{ℕ, ◌+◌, ◌<◌}
use lib.ListN.{get_or, take, drop, replicate}
use lib.Seq.{take_at}
use Rattle.laws.specs.Below.{tabulate}
use Rattle.laws.specs.Filled.{Overwritten}
use Rattle.laws.proofs.Lists.{length_tabulate, tabulate_same}
use Rattle.laws.proofs.Overwritten.{over_at, over_so, over_all, over_again}
use Rattle.member.specs.declared.Member.{Member}
use Rattle.sets.specs.Largest.{largest, fitting}
use Rattle.sets.specs.Tables.{padded}
use Rattle.sets.proofs.Theorem.{table_facts}
use Rattle.run.specs.Protocol.{Protocol, nobody}
use Rattle.run.specs.Run.{delivered, heard_from, state_at, code_said, state_after}
use Rattle.delivery.specs.Delivery.{Delivers}
use Rattle.execution.specs.Rounds.{no_members, Opens, PlaysRound}

-- each member that completes the round hears its row in a grid, and the places from n on are as they were
abbrev pub HearsRows : Protocol → ℕ → ℕ → List Member → List ℕ → List (List ℕ) → List Member → Type 0
HearsRows P n round members crashes grid next =
    Overwritten n (λ i. state_after P round (get_or crashes i 0) (state_at members i) (take n (get_or grid i []))) members next

-- what a padded table of codes holds
pub code_at : (n : ℕ) (f : ℕ → ℕ) {codes : List ℕ} → codes ≡ padded n f → (j : ℕ) → j < n → get_or codes j 0 ≡ f j
code_at n f e j l = ap (λ (codes : List ℕ). get_or codes j 0) e ∙ (table_facts n f).given j l

front_padded : (n : ℕ) (f : ℕ → ℕ) → take n (padded n f) ≡ tabulate n f
front_padded n f = take_at (tabulate n f) (drop n (replicate largest 0)) n (length_tabulate n f)

-- A round of n processes whose codes were delivered.
module _ (P : Protocol) (n r : ℕ) (code : ℕ → ℕ) (crashes reaches : List ℕ) {grid grid_now : List (List ℕ)}
    (sent : Delivers n r code crashes reaches grid grid_now) where
  -- the first n codes of a row in the grid are the row of its process
  pub row_at : (i : ℕ) → i < n → take n (get_or grid_now i []) ≡ tabulate n (heard_from crashes reaches r code i)
  row_at i l = ap (take n) (over_at sent i [] l) ∙ front_padded n (heard_from crashes reaches r code i)

  -- the rows of the grid are heard, and if the codes are what the members say, that is the round
  pub plays_round : {members next : List Member} → ((j : ℕ) → j < n → code j ≡ code_said P members j) → HearsRows P n r members crashes grid_now next
      → PlaysRound P n r members crashes reaches next
  plays_round {members} said h =
      over_so h
      (λ i l. ap (state_after P r (get_or crashes i 0) (state_at members i))
      (row_at i l ∙ tabulate_same n _ _ (λ j b. ap (delivered r i (get_or crashes j 0) (get_or reaches j 0)) (said j b))))

-- the loop that opens the members is at its end
pub all_opened : (P : Protocol) (n t : ℕ) (votes : List ℕ) {size i : ℕ} {members : List Member} → size ≡ fitting n → i ≡ size
    → Overwritten i (λ k. P.opening size t (k + 1) (get_or votes k 0)) no_members members → Opens P (fitting n) t votes members
all_opened P n t votes same end h = rw (← same) (over_all h end)

-- and so is the one in which they hear their rows
pub all_heard : (P : Protocol) (n r : ℕ) (crashes : List ℕ) (grid : List (List ℕ)) {size i : ℕ} {members next : List Member} → size ≡ fitting n → i ≡ size
    → Overwritten i (λ k. state_after P r (get_or crashes k 0) (state_at members k) (take size (get_or grid k []))) members next
    → HearsRows P (fitting n) r members crashes grid next
all_heard P n r crashes grid same end h = rw (← same) (over_all h end)

-- the codes of members that were entered one by one are what the members say
pub said_of : (P : Protocol) (n : ℕ) (state : ℕ → Member) {others members : List Member} {before codes : List ℕ} → Overwritten n state others members
    → Overwritten n (λ k. P.says (state k)) before codes → Overwritten n (code_said P members) before codes
said_of P n state h said = over_so said (λ k l. sym (ap P.says (over_at h k nobody l)))

-- of the loop in which the members hear their rows, at its end
pub all_said : (P : Protocol) (n r : ℕ) (crashes : List ℕ) (grid : List (List ℕ)) {size i : ℕ} {members next : List Member} {before codes : List ℕ} → size ≡ fitting n
    → i ≡ size → HearsRows P (fitting n) r members crashes grid next
    → Overwritten i (λ k. P.says (state_after P r (get_or crashes k 0) (state_at members k) (take size (get_or grid k [])))) before codes
    → Overwritten (fitting n) (code_said P next) before codes
all_said P n r crashes grid {members = members} same end h said =
    said_of P (fitting n) (λ k. state_after P r (get_or crashes k 0) (state_at members k) (take (fitting n) (get_or grid k []))) h (rw (← same) (over_all said end))

-- and stand as such in a table with zeros after them, if it held zeros before
pub said_start : (n : ℕ) {f : ℕ → ℕ} {before codes : List ℕ} → before ≡ replicate largest 0 → Overwritten n f before codes → codes ≡ padded n f
said_start n {f} e h = h.is ∙ ap (λ (rest : List ℕ). tabulate n f ++ drop n rest) e

-- or other codes
pub said_again : (n : ℕ) (f : ℕ → ℕ) {g : ℕ → ℕ} {before codes : List ℕ} → before ≡ padded n f → Overwritten n g before codes → codes ≡ padded n g
said_again n f e h = (over_again {f = f} (record { is = e }) h).is
