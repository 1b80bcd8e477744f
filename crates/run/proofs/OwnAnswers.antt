-- Where no call of a member is refused, the run by the answers of the calls is the run: the openings are the same, and round by round what is said,
-- the rows and the states after them. Assumes nothing.
use mathlib.Core.Path.{◌≡◌, sym, ap, ◌∙◌}
use mathlib.Core.Logic.{inl, inr}
use mathlib.Core.List.{List}
use mathlib.Core.Bool.{true, false}
use Prim.Native.Nat.{ℕ, zero, suc, ◌+◌, ◌≤◌, ◌<◌}
use native.Mathlib.Omega.{arith}
use Rattle.laws.specs.Below.{tabulate}
use Rattle.laws.proofs.Answer.{place_given}
use Rattle.laws.proofs.Test.{true_or_false}
use Rattle.laws.proofs.Lists.{tabulate_same}
use Rattle.laws.proofs.Sums.{sum_same}
use Rattle.member.specs.declared.Member.{Member}
use Rattle.schedule.specs.Schedule.{Schedule, vote_of, crash_of, reach_of}
use Rattle.run.specs.Protocol.{Protocol, by_calls}
use Rattle.run.specs.Run.{delivered, completes, state_at, code_said, code_heard, row_of, state_after, next_state, played, opened, states_after, after}
use Rattle.run.specs.Report.{sent_by, messages_of, sent_after}
use Rattle.run.specs.Facts.{NoneRefused, OwnAnswers}
use Rattle.run.proofs.Rounds.{crashed_stays, stopped_stays, other_moves}

module _ (P : Protocol) (limit : ℕ) (s : Schedule) (none : NoneRefused P limit s) where
  abbrev Q : Protocol
  Q = by_calls limit P

  opened_same : opened Q s ≡ opened P s
  unfolding opened
  opened_same = tabulate_same s.n _ _ (λ i l. place_given _ (P.opening s.n s.t (i + 1) (vote_of s i)) _ (none.opens i l))

  module _ (r : ℕ) (rt : r ≤ s.t + 1) where
    abbrev states : List Member
    states = states_after P s r

    said_same : (j : ℕ) → j < s.n → code_said Q states j ≡ code_said P states j
    unfolding after
    said_same j l = place_given _ (P.says (state_at states j)) _ (none.says r j rt l)

    row_same : (i : ℕ) → row_of Q s (suc r) states i ≡ row_of P s (suc r) states i
    unfolding row_of code_heard
    row_same i = tabulate_same s.n _ _ (λ j l. ap (delivered (suc r) i (crash_of s j) (reach_of s j)) (said_same j l))

  module _ (r : ℕ) (rt : r ≤ s.t) (i : ℕ) (l : i < s.n) where
    abbrev m : Member
    m = state_at (states_after P s r) i

    abbrev row : List ℕ
    row = row_of P s (suc r) (states_after P s r) i

    heard_same : completes s (suc r) i ≡ true → P.stopped m ≡ false → Q.hears m row ≡ P.hears m row
    unfolding after
    heard_same c e = place_given _ (P.hears m row) _ (none.hears r i rt (record { process = l; completed = c }) e)

    after_same : state_after Q (suc r) (crash_of s i) m row ≡ state_after P (suc r) (crash_of s i) m row
    after_same =
        elim (true_or_false (completes s (suc r) i)) [
          | inr c ↦ crashed_stays Q (suc r) (crash_of s i) m row c ∙ sym (crashed_stays P (suc r) (crash_of s i) m row c)
          | inl c ↦
              elim (true_or_false (P.stopped m)) [
                | inl e ↦ stopped_stays Q (suc r) (crash_of s i) m row e ∙ sym (stopped_stays P (suc r) (crash_of s i) m row e)
                | inr e ↦ other_moves Q (suc r) (crash_of s i) m row c e ∙ heard_same c e ∙ sym (other_moves P (suc r) (crash_of s i) m row c e)
              ]
        ]

    next_same : next_state Q s (suc r) (states_after P s r) i ≡ next_state P s (suc r) (states_after P s r) i
    unfolding next_state
    next_same = ap (state_after Q (suc r) (crash_of s i) m) (row_same r (omega arith) i) ∙ after_same

  states_same : (r : ℕ) → r ≤ s.t + 1 → states_after Q s r ≡ states_after P s r
  unfolding states_after played
  states_same zero rt = opened_same
  states_same (suc r) rt =
      ap (λ (before : List Member). tabulate s.n (next_state Q s (suc r) before)) (states_same r (omega arith))
      ∙ tabulate_same s.n _ _ (next_same r (omega arith))

  sends_same : (r : ℕ) → r ≤ s.t → sent_after Q s r ≡ sent_after P s r
  sends_same r rt =
      ap (λ (before : List Member). messages_of s.crashes s.reaches (suc r) (code_said Q before) s.n) (states_same r (omega arith))
      ∙ sum_same s.n _ _ (λ j l. ap (sent_by s.n (suc r) (crash_of s j) (reach_of s j)) (said_same r (omega arith) j l))

  pub own_answers : OwnAnswers P limit s
  own_answers = record { states = states_same; sends = sends_same }
