-- Values that documents 01 and 02 give, written by hand, and the settling rounds of some crash rounds, worked by hand; and the statement that covers them.
-- Proved in proofs/Vectors.antt: `run_vectors : RunVectors`, by computing what the definitions give.
use Rattle.std.specs.Prelude.{ℕ, ◌≡◌, List, [], ◌∷◌, map, get_or}
use Rattle.sets.specs.Largest.{largest}
use Rattle.laws.specs.Below.{tabulate}
use Rattle.member.specs.declared.Member.{Member}
use Rattle.member.specs.declared.Rule.{Rule}
use Rattle.member.specs.declared.Rule.TheVariants.{Told, Quiet, LastRound, NoRule}
use Rattle.member.specs.declared.Reason.{Reason}
use Rattle.member.specs.Opening.{opening}
use Rattle.schedule.specs.Four.{four, all_zero, four_voting1}
use Rattle.schedule.specs.Schedule.{Schedule, schedule_of, crashed_by}
use Rattle.run.specs.Protocol.{fcwfa, nobody, by_calls}
use Rattle.run.specs.Run.{states_after}
use Rattle.run.specs.Report.{first_of, last_of, report}
use Rattle.run.specs.Demand.{round_b, most_messages}
use Rattle.run.specs.CrashesSoFar.{settling_of}
use Rattle.run.specs.Outcome.{lowest_decided, outcome_round, outcome_decision}
use Rattle.run.specs.Why.{why_of}

-- the rounds that stand in a table, 0 past its end
abbrev pub rounds_in : List ℕ → ℕ → ℕ
rounds_in table i = get_or table i 0

-- the first decider of four processes with these crash rounds and these decided rounds
abbrev pub first_of_four : List ℕ → List ℕ → ℕ
first_of_four crashes rounds = first_of (rounds_in crashes) (rounds_in rounds) 4

-- the settling round of so many processes with these crash rounds, t of which may crash; no votes and no reaches are looked at
abbrev pub settling_in : ℕ → ℕ → List ℕ → ℕ
settling_in n t crashes = settling_of (schedule_of n t [] crashes [])

-- a member of four in round 9, which is not in range: t is 3
abbrev pub late_member : Member
late_member = record { n = 4; t = 3; id = 1; round = 9; estimate = 1; decided = 0; silent = 0 }

-- a member of four with the estimate 1 at the end of a run, that decided in this round, 0 for none
abbrev pub decided_in : ℕ → Member
decided_in r = record { n = 4; t = 3; id = 1; round = 5; estimate = 1; decided = r; silent = 0 }

-- the decision and the round of a schedule's outcome
abbrev pub outcome_in : Schedule → List ℕ
outcome_in s = outcome_decision fcwfa s ∷ outcome_round fcwfa s ∷ []

-- a rule with its number, and the reasons of all processes of a schedule
abbrev pub because : Rule → ℕ → Reason
because rule number = record { rule = rule; number = number }

abbrev pub reasons_in : Schedule → List Reason
reasons_in s = tabulate s.n (why_of s)

pub record RunVectors : Type 0 where
  -- B = f + 2 if f ≤ t − 2 and f + 1 otherwise: t = 3 with no crash to three, and t = 5 with no crash to five
  pub round_b_of_3 : map (λ f. round_b f 3) (four 0 1 2 3) ≡ four 2 3 3 4
  pub round_b_of_5 : map (λ f. round_b f 5) (0 ∷ 1 ∷ 2 ∷ 3 ∷ 4 ∷ 5 ∷ []) ≡ 2 ∷ 3 ∷ 4 ∷ 5 ∷ 5 ∷ 6 ∷ []
  -- "n × (n − 1) × the smaller of B + 1 and t + 1", of four processes with t = 3 and no crash to three; and case A, "36", meets it
  pub most_messages_of_4 : map (most_messages 4 3) (four 0 1 2 3) ≡ four 36 48 48 48
  pub bound_met : (report fcwfa (four_voting1 all_zero all_zero)).messages ≡ most_messages 4 3 0
  -- crash rounds from 1 to r, of those of case E: none to round 0, one to round 1, two to round 2, three to round 3
  pub crashed_by : map (crashed_by (four_voting1 (four 1 3 0 2) all_zero)) (four 0 1 2 3) ≡ four 0 1 2 3
  -- the first r from 2 to t − 1 with fewer than r − 1 crashes by r, else t if there are fewer than t by t, else t + 1: four processes with t = 3, cases A,
  -- D, E, G, H and K
  pub settling_of_4 : map (settling_in 4 3) (all_zero ∷ four 1 0 0 0 ∷ four 1 3 0 2 ∷ four 1 0 0 2 ∷ four 3 0 0 0 ∷ four 1 1 1 0 ∷ []) ≡ 2 ∷ 3 ∷ 4 ∷ 3 ∷ 2 ∷ 4 ∷ []
  -- seven processes with t = 6: six crashes in round 3, none by 2; one by 2 and 3; three by 2 to 5; one by 2, two by 3, three by 4, four by 5 and by 6;
  -- six by 6; and five by 6, with one more in round 7
  pub settling_of_7 : map (settling_in 7 6)
      ((3 ∷ 3 ∷ 3 ∷ 3 ∷ 3 ∷ 3 ∷ 0 ∷ []) ∷ (1 ∷ 6 ∷ 6 ∷ 0 ∷ 0 ∷ 0 ∷ 0 ∷ []) ∷ (1 ∷ 1 ∷ 1 ∷ 0 ∷ 0 ∷ 0 ∷ 0 ∷ []) ∷ (2 ∷ 3 ∷ 4 ∷ 5 ∷ 0 ∷ 0 ∷ 0 ∷ [])
      ∷ (1 ∷ 2 ∷ 3 ∷ 4 ∷ 5 ∷ 6 ∷ 0 ∷ []) ∷ (1 ∷ 2 ∷ 3 ∷ 4 ∷ 5 ∷ 7 ∷ 0 ∷ []) ∷ []) ≡ 2 ∷ 3 ∷ 5 ∷ 6 ∷ 7 ∷ 6 ∷ []
  -- "the one with the smallest decided round": a process that crashes, with the smaller round; two that never crash, in one round; two in different
  -- rounds; and 0 for none
  pub first_by_round : map (first_of_four (four 4 0 0 0)) (four 2 3 3 0 ∷ four 4 3 3 0 ∷ four 0 4 0 3 ∷ all_zero ∷ []) ≡ 1 ∷ 2 ∷ 4 ∷ 0 ∷ []
  -- "Among equal smallest rounds a process whose crash round is 0 now goes before one that crashes, and only then the lower number": case H, "from 1 to
  -- 2"; the last of four; all crash, the lower numbers later, and sooner; and nobody crashes
  pub first_survivor : map (λ crashes. first_of_four crashes (four 2 2 2 2)) (four 3 0 0 0 ∷ four 3 4 4 0 ∷ four 4 3 2 1 ∷ four 1 2 3 4 ∷ all_zero ∷ []) ≡ 2 ∷ 4 ∷ 1 ∷ 1 ∷ 1 ∷ []
  -- "the largest decided round"
  pub last : map (λ rounds. last_of (rounds_in rounds) 4) (four 3 2 2 0 ∷ four 0 4 0 3 ∷ all_zero ∷ []) ≡ 3 ∷ 4 ∷ 0 ∷ []
  -- the silent sets of case E, after rounds 1 to 4: in round 2 process 2 misses process 1, and process 3 also process 4, whose message comes to process 2
  -- alone; in round 3 process 3 misses process 2 too, and in round 4 the same three
  pub silent_sets : map (λ r. map (λ m. m.silent) (states_after fcwfa (four_voting1 (four 1 3 0 2) (four 6 0 0 2)) r)) (four 1 2 3 4)
      ≡ all_zero ∷ four 0 1 9 0 ∷ four 0 1 11 0 ∷ four 0 1 11 0 ∷ []
  -- the lowest-numbered process that is decided: of two, in whichever rounds; the first; the last; and none
  pub lowest_decided : map (λ rounds. lowest_decided 4 (map decided_in rounds)) (four 0 3 2 0 ∷ four 4 0 0 2 ∷ four 0 0 0 4 ∷ all_zero ∷ []) ≡ 1 ∷ 0 ∷ 3 ∷ 4 ∷ []
  -- the outcomes of cases A, B, D, E, F, G and K: the smallest decided round, and what is decided in it; and where process 4 decides in round 2, and
  -- process 3 in round 4
  pub outcomes : map outcome_in
      (four_voting1 all_zero all_zero ∷ schedule_of 4 3 (four 0 1 1 1) all_zero all_zero ∷ four_voting1 (four 1 0 0 0) (four 2 0 0 0)
      ∷ four_voting1 (four 1 3 0 2) (four 6 0 0 2) ∷ four_voting1 (four 1 3 0 2) (four 6 4 0 2) ∷ four_voting1 (four 1 0 0 2) (four 6 0 0 2)
      ∷ four_voting1 (four 1 1 1 0) all_zero ∷ four_voting1 (four 2 2 0 3) (four 10 8 0 0) ∷ [])
      ≡ (1 ∷ 2 ∷ []) ∷ (0 ∷ 2 ∷ []) ∷ (0 ∷ 3 ∷ []) ∷ (1 ∷ 4 ∷ []) ∷ (0 ∷ 3 ∷ []) ∷ (0 ∷ 3 ∷ []) ∷ (0 ∷ 2 ∷ []) ∷ (1 ∷ 2 ∷ []) ∷ []
  -- where all four crash in round 1, one more than t, nobody decides: 2 for none, and t + 2 for the round
  pub no_outcome : outcome_in (four_voting1 (four 1 1 1 1) all_zero) ≡ 2 ∷ 5 ∷ []
  -- why each process decided, or did not. Process 1 crashes in round 2 and reaches 2 and 3: these miss nobody, and process 4 hears of both a round later.
  pub told_by_2 : reasons_in (four_voting1 (four 2 0 0 0) (four 6 0 0 0)) ≡ because NoRule 2 ∷ because Quiet 0 ∷ because Quiet 0 ∷ because Told 2 ∷ []
  -- Processes 1 and 2 crash in round 2, and process 4 alone hears both. It crashes in round 3: its message comes to process 3, and then does not.
  pub told_by_4 : reasons_in (four_voting1 (four 2 2 0 3) (four 10 8 0 4)) ≡ because NoRule 2 ∷ because NoRule 2 ∷ because Told 4 ∷ because Quiet 0 ∷ []
  pub untold_by_4 : reasons_in (four_voting1 (four 2 2 0 3) (four 10 8 0 0)) ≡ because NoRule 2 ∷ because NoRule 2 ∷ because LastRound 0 ∷ because Quiet 0 ∷ []
  -- Six processes with t = 5: process 1 crashes in round 2 unheard, and the others decide in round 3 with one missing.
  pub one_missing : reasons_in (schedule_of 6 5 (1 ∷ 1 ∷ 1 ∷ 1 ∷ 1 ∷ 1 ∷ []) (2 ∷ 0 ∷ 0 ∷ 0 ∷ 0 ∷ 0 ∷ []) (0 ∷ 0 ∷ 0 ∷ 0 ∷ 0 ∷ 0 ∷ []))
      ≡ because NoRule 2 ∷ because Quiet 1 ∷ because Quiet 1 ∷ because Quiet 1 ∷ because Quiet 1 ∷ because Quiet 1 ∷ []
  -- what the answers of calls come to: an opening with n = 3, and a member in a round past the last, which says nothing and keeps its state whatever it
  -- hears; and calls that are accepted
  pub refused_opening : map (λ n. (by_calls largest fcwfa).opening n 3 1 1) (3 ∷ 4 ∷ []) ≡ nobody ∷ opening 4 3 1 1 ∷ []
  pub refused_saying : map (by_calls largest fcwfa).says (late_member ∷ opening 4 3 1 1 ∷ []) ≡ 0 ∷ 2 ∷ []
  pub refused_hearing : map (λ m. (by_calls largest fcwfa).hears m (four 2 2 2 2)) (late_member ∷ opening 4 3 1 1 ∷ [])
      ≡ late_member ∷ record { n = 4; t = 3; id = 1; round = 2; estimate = 1; decided = 0; silent = 0 } ∷ []
