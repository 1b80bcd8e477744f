-- What the run asks of a protocol's member, hearing by hearing, so that its runs keep the laws of World.antt. Assumes nothing.
use mathlib.Core.Path.{◌≡◌}
use mathlib.Core.Logic.{◌⊎◌}
use mathlib.Core.List.{List}
use mathlib.Core.Bool.{true, false}
use Prim.Native.Nat.{ℕ, suc, ◌+◌, ◌≤◌, ◌<◌}
use Rattle.laws.specs.Below.{tabulate}
use Rattle.member.specs.declared.Member.{Member}
use Rattle.run.specs.Protocol.{Protocol}
use Rattle.run.proofs.OneRound.{NoneDecided, LoweredBy, ToldBy}

module _ (P : Protocol) where
  -- a member after r rounds: undecided, decided in round r, or decided before and silent
  pub data Phase (r : ℕ) (m : Member) : Type 0 where
    waiting : m.decided ≡ 0 → P.stopped m ≡ false → P.says m ≡ suc m.estimate → Phase r m
    fresh : 0 < r → m.decided ≡ r → P.stopped m ≡ false → P.says m ≡ 3 + m.estimate → Phase r m
    over : 0 < m.decided → m.decided < r → P.stopped m ≡ true → P.says m ≡ 0 → Phase r m

  -- `At n t r m` says that m stands in a run of n and t after r rounds. From round start + 1 on an estimate 0 that is heard lowers the estimate.
  pub record Behaves (start : ℕ) (At : ℕ → ℕ → ℕ → Member → Type 0) : Type 0 where
    pub opens_at : (n t id vote : ℕ) → At n t 0 (P.opening n t id vote)
    pub opens_with : (n t id vote : ℕ) → (P.opening n t id vote).estimate ≡ vote
    pub opens_undecided : (n t id vote : ℕ) → (P.opening n t id vote).decided ≡ 0
    pub phase : (n t r : ℕ) (m : Member) → r ≤ t → At n t r m → Phase r m
    pub rests : (n t r : ℕ) (m : Member) → r ≤ t → At n t r m → P.stopped m ≡ true → At n t (suc r) m
    pub goes_on : (n t r : ℕ) (m : Member) (row : List ℕ) → r ≤ t → At n t r m → P.stopped m ≡ false → At n t (suc r) (P.hears m row)
    pub kept : (m : Member) (row : List ℕ) → 0 < m.decided → ((P.hears m row).estimate ≡ m.estimate) × ((P.hears m row).decided ≡ m.decided)
    pub moves : (n t r : ℕ) (m : Member) (row : List ℕ) → At n t r m → m.decided ≡ 0
        → ((P.hears m row).decided ≡ 0) ⊎ ((P.hears m row).decided ≡ suc r)
    pub never_rises : (n t r : ℕ) (m : Member) (c : ℕ → ℕ) → At n t r m → m.decided ≡ 0 → NoneDecided n c
        → (P.hears m (tabulate n c)).estimate ≤ m.estimate
    pub told : (n t r : ℕ) (m : Member) (c : ℕ → ℕ) → At n t r m → m.decided ≡ 0 → 0 < r → (j : ℕ) → j < n → 3 ≤ c j → c j ≤ 4
        → ToldBy n r c (P.hears m (tabulate n c)).estimate (P.hears m (tabulate n c)).decided
    pub lowers : (n t r : ℕ) (m : Member) (c : ℕ → ℕ) → At n t r m → m.decided ≡ 0 → start ≤ r → NoneDecided n c
        → LoweredBy n c m.estimate (P.hears m (tabulate n c)).estimate
    pub ends : (n t : ℕ) (m : Member) (row : List ℕ) → 3 ≤ t → At n t t m → m.decided ≡ 0 → (P.hears m row).decided ≡ suc t
