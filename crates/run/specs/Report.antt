-- What the bench gives for a schedule: the counts f, first, last and messages, and the decision and the round of each process.
use Rattle.std.specs.Prelude.{ℕ, suc, ◌+◌, ◌-◌, max, List, Bool, cond, ◌&&◌, ◌||◌, not, ltb, eqb, get_or}
use Rattle.std.specs.Int.Count.{ones}
use Rattle.laws.specs.Below.{sum, bit, tabulate, fold}
use Rattle.member.specs.declared.Member.{Member}
use Rattle.member.specs.Saying.{nothing}
use Rattle.schedule.specs.Schedule.{Schedule, crash_of, ever_crashes, crash_count}
use Rattle.run.specs.Protocol.{Protocol}
use Rattle.run.specs.Run.{completes_round, state_at, code_said, states_after, final}

pub record Report : Type 0 where
  pub f : ℕ
  pub first : ℕ
  pub last : ℕ
  pub messages : ℕ
  pub decisions : List ℕ
  pub rounds : List ℕ

-- the decided round that is given for process i, 0 for none
abbrev pub given_round : Report → ℕ → ℕ
given_round given i = get_or given.rounds i 0

-- What a sender adds to the messages of round r, of n processes, with its crash round, its reach and the code that it says: "A completing sender
-- that says something now adds n − 1. A crash adds the ones of its reach as before", which is "if it says something; all others add 0". The copy to
-- itself "never touches the wire".
unfoldable pub sent_by : ℕ → ℕ → ℕ → ℕ → ℕ → ℕ
sent_by n r c reach code =
    cond (eqb code nothing) 0
    (cond (completes_round r c) (n - 1)
    (cond (eqb c r) (ones reach)
    0))

-- One step of the order of two processes, by the values x and y that they have in it: the smaller goes ahead, and where they are equal, "and only
-- then", the next step tells.
unfoldable pub ahead : ℕ → ℕ → Bool → Bool
ahead x y next = ltb x y || (eqb x y && next)

-- First, from the crash rounds of the processes at places 0, 1, .., 0 for never, and from their decided rounds, 0 for none.
module _ (crash round : ℕ → ℕ) where
  -- Whether i goes before k, two processes that decided: "the one with the smallest decided round", and "Among equal smallest rounds a process whose
  -- crash round is 0 now goes before one that crashes", 0 before 1, "and only then the lower number."
  unfoldable pub before : ℕ → ℕ → Bool
  before i k = ahead (round i) (round k) (ahead (bit (ever_crashes (crash i))) (bit (ever_crashes (crash k))) (ltb i k))

  -- the number of the first decider among the processes looked at, 0 for none: `found` before process i is looked at, and with it
  unfoldable pub first_with : ℕ → ℕ → ℕ
  first_with i found = cond (not (eqb (round i) 0) && (eqb found 0 || before i (found - 1))) (i + 1) found

  -- "first, among the processes that decided": of n processes
  unfoldable pub first_of : ℕ → ℕ
  first_of n = fold n first_with 0

-- "last, the largest decided round": of n processes with these decided rounds
unfoldable pub last_of : (ℕ → ℕ) → ℕ → ℕ
last_of round n = fold n (λ i found. max found (round i)) 0

-- Of n processes whose crash rounds and reaches stand in these tables, in round r, in which the process at place j says `code j`: what sender j adds,
abbrev pub sent_from : List ℕ → List ℕ → ℕ → (ℕ → ℕ) → ℕ → ℕ → ℕ
sent_from crashes reaches r code n j = sent_by n r (get_or crashes j 0) (get_or reaches j 0) (code j)

-- and the messages of all senders
abbrev pub messages_of : List ℕ → List ℕ → ℕ → (ℕ → ℕ) → ℕ → ℕ
messages_of crashes reaches r code n = sum n (sent_from crashes reaches r code n)

module _ (states : List Member) where
  -- the decided round of process i in these states, 0 for none
  abbrev pub round_of : ℕ → ℕ
  round_of i = (state_at states i).decided

  -- its decision: "0, 1 or 2 (none)"
  unfoldable pub decision_of : ℕ → ℕ
  decision_of i = cond (eqb (round_of i) 0) 2 (state_at states i).estimate

module _ (P : Protocol) (s : Schedule) where
  -- what sender j adds in round r, from the states at its start
  abbrev pub sent : ℕ → List Member → ℕ → ℕ
  sent r states = sent_from s.crashes s.reaches r (code_said P states) s.n

  -- the messages of all senders in the round that follows r rounds
  abbrev pub sent_after : ℕ → ℕ
  sent_after r = messages_of s.crashes s.reaches (suc r) (code_said P (states_after P s r)) s.n

  -- "messages, the sum over all rounds and senders": of rounds 1 to t + 1
  unfoldable pub messages : ℕ
  messages = sum (s.t + 1) sent_after

  -- "The bench gives exactly these decisions and rounds, and the counts above of this run."
  abbrev pub report : Report
  report = record {
    f = crash_count s;
    first = first_of (crash_of s) (round_of (final P s)) s.n;
    last = last_of (round_of (final P s)) s.n;
    messages = messages;
    decisions = tabulate s.n (decision_of (final P s));
    rounds = tabulate s.n (round_of (final P s));
  }
