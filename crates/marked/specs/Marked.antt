-- The marked schedules (document 01, "Marked schedules"), and the table of them with their results.
-- A contract cannot name a constant of the code, so the schedules A to K stand here too. Their results do not: those of the constant are
-- proved to be what the definitions give.
use Rattle.std.specs.Prelude.{ℕ, ◌≡◌, List, [], ◌∷◌, map, true, Option, IfSome, slice_get}
use Rattle.sets.specs.Largest.{largest}
use Rattle.member.specs.declared.Rule.TheVariants.{ZerosOnly, Quiet, RoundT, LastRound, NoRule}
use Rattle.member.specs.declared.Reason.{Reason}
use Rattle.schedule.specs.Schedule.{Schedule}
use Rattle.schedule.specs.Questions.{question}
use Rattle.schedule.specs.Four.{four, all_one, all_zero}
use Rattle.run.specs.Protocol.{fcwfa}
use Rattle.run.specs.Report.{Report, report}
use Rattle.run.specs.Vectors.{because, reasons_in}
use Rattle.marked.specs.declared.Case.{Case}

-- "n = 4, t = 3": with these votes, crash rounds and reaches
abbrev pub marked : List ℕ → List ℕ → List ℕ → Schedule
marked votes crashes reaches = record { n = 4; t = 3; votes = votes; crashes = crashes; reaches = reaches }

abbrev pub schedules : List Schedule
schedules =
    -- "A no crash"
    marked all_one all_zero all_zero ∷
    -- "B process 1 votes 0"
    marked (four 0 1 1 1) all_zero all_zero ∷
    -- "C 1: 1/0000"
    marked all_one (four 1 0 0 0) all_zero ∷
    -- "D above": 1: 1/0100
    marked all_one (four 1 0 0 0) (four 2 0 0 0) ∷
    -- "E 1: 1/0110; 4: 2/0100; 2: 3/0000"
    marked all_one (four 1 3 0 2) (four 6 0 0 2) ∷
    -- "F as E, but 2: 3/0010"
    marked all_one (four 1 3 0 2) (four 6 4 0 2) ∷
    -- "G as E, 2 not crashing"
    marked all_one (four 1 0 0 2) (four 6 0 0 2) ∷
    -- "H 1: 3/0000"
    marked all_one (four 3 0 0 0) all_zero ∷
    -- "I 1: 2/0111"
    marked all_one (four 2 0 0 0) (four 14 0 0 0) ∷
    -- "J 1: 4/0000"
    marked all_one (four 4 0 0 0) all_zero ∷
    -- "K 1, 2, 3: 1/0000"
    marked all_one (four 1 1 1 0) all_zero ∷
    []

-- "constant table of tables: votes, crash rounds, reaches and expected results": the entry of a schedule, with what the definitions give for it
abbrev pub case_of : Schedule → Case
case_of s = record {
  votes = s.votes;
  crashes = s.crashes;
  reaches = s.reaches;
  decisions = (report fcwfa s).decisions;
  rounds = (report fcwfa s).rounds;
  f = (report fcwfa s).f;
  first = (report fcwfa s).first;
  last = (report fcwfa s).last;
  messages = (report fcwfa s).messages;
}

abbrev pub cases : List Case
cases = map case_of schedules

-- the schedule that an entry holds, and the results that it expects
abbrev pub marked_schedule : Case → Schedule
marked_schedule c = marked c.votes c.crashes c.reaches

abbrev pub expected : Case → Report
expected c = record {
  f = c.f;
  first = c.first;
  last = c.last;
  messages = c.messages;
  decisions = c.decisions;
  rounds = c.rounds;
}

-- "their results are proved together from the definitions, by a statement that covers the table": the entries of the table are the
-- schedules A to K with the results that the definitions give, and all are accepted
pub record MarkedTable (table : List Case) : Type 0 where
  pub entries : table ≡ cases
  pub accepted : map (λ c. question (marked_schedule c) largest true) table ≡ map (λ c. 0) table

-- Why each process of A to K decided, or did not, worked by hand from document 01: the rule with its number, and no rule and the crash round for one
-- without a decision.
abbrev pub crashed : ℕ → Reason
crashed round = because NoRule round

-- of four processes
abbrev pub each : Reason → Reason → Reason → Reason → List Reason
each a b c d = a ∷ b ∷ c ∷ d ∷ []

abbrev pub marked_reasons : List (List Reason)
marked_reasons =
    -- A, in which nobody is missing in round 2; B, in which all estimates of round 2 are 0, and nobody is missing either; C, in which they are 0 since all miss
    -- process 1 in round 1
    each (because Quiet 0) (because Quiet 0) (because Quiet 0) (because Quiet 0) ∷
    each (because ZerosOnly 0) (because ZerosOnly 0) (because ZerosOnly 0) (because ZerosOnly 0) ∷
    each (crashed 1) (because ZerosOnly 0) (because ZerosOnly 0) (because ZerosOnly 0) ∷
    -- D, three estimates in round t
    each (crashed 1) (because RoundT 3) (because RoundT 3) (because RoundT 3) ∷
    -- E, in which process 3 hears nobody else in round t; F, in which it hears process 2; G, in which both hear each other
    each (crashed 1) (crashed 3) (because LastRound 0) (crashed 2) ∷
    each (crashed 1) (crashed 3) (because RoundT 2) (crashed 2) ∷
    each (crashed 1) (because RoundT 2) (because RoundT 2) (crashed 2) ∷
    -- H and J, in which process 1 crashes after it has decided; I, in which it crashes in round 2, and all hear it
    each (because Quiet 0) (because Quiet 0) (because Quiet 0) (because Quiet 0) ∷
    each (crashed 2) (because Quiet 0) (because Quiet 0) (because Quiet 0) ∷
    each (because Quiet 0) (because Quiet 0) (because Quiet 0) (because Quiet 0) ∷
    -- K, in which process 4 hears its own estimate alone, a 0
    each (crashed 1) (crashed 1) (crashed 1) (because ZerosOnly 0) ∷
    []

-- they are what the definitions give: proved in proofs/Reasons.antt, `marked_reasons_lem : MarkedReasons`
pub record MarkedReasons : Type 0 where
  pub given : map reasons_in schedules ≡ marked_reasons

-- entry k, where the table has one
abbrev pub case_entry : ℕ → Option Case
case_entry k = slice_get cases k

-- what `case_at` hands out for k
pub record CaseAt (k : ℕ) (r : Option Case) : Type 0 where
  pub entry : r ≡ case_entry k
  pub accepted : IfSome r (λ c. question (marked_schedule c) largest true ≡ 0)
  pub results : IfSome r (λ c. report fcwfa (marked_schedule c) ≡ expected c)
