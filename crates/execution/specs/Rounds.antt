-- One round of all members, which stand side by side in an array as long as the largest cluster.
use Rattle.std.specs.Prelude.{ℕ, ◌+◌, List, get_or, replicate}
use Rattle.laws.specs.Below.{tabulate}
use Rattle.laws.specs.Filled.{Overwritten}
use Rattle.sets.specs.Largest.{largest}
use Rattle.member.specs.declared.Member.{Member}
use Rattle.run.specs.Protocol.{Protocol, nobody}
use Rattle.run.specs.Run.{heard_from, state_at, code_said, state_after}

-- an array in which no member stands
abbrev pub no_members : List Member
no_members = replicate largest nobody

-- Of any protocol, a cluster of n processes.
module _ (P : Protocol) (n : ℕ) where
  -- "every member is opened with n, t, its own number and its vote": the first n places hold them, and the others nobody
  abbrev pub Opens : ℕ → List ℕ → List Member → Type 0
  Opens t votes members = Overwritten n (λ i. P.opening n t (i + 1) (get_or votes i 0)) no_members members

  -- a round: each member says its code, and each that completes the round and is not stopped hears its row of these; the places from n on are as they
  -- were
  abbrev pub PlaysRound : ℕ → List Member → List ℕ → List ℕ → List Member → Type 0
  PlaysRound round members crashes reaches next =
      Overwritten n
      (λ i. state_after P round (get_or crashes i 0) (state_at members i) (tabulate n (heard_from crashes reaches round (code_said P members) i)))
      members next
