-- The facts of a schedule, together. Assumes nothing.
use Rattle.schedule.specs.Schedule.{Schedule, reach_of}
use Rattle.schedule.specs.Facts.{ScheduleFacts}
use Rattle.schedule.proofs.Accepted.{question_accepted, accepted_question}
use Rattle.schedule.proofs.Crashes.{all_crashes}
use Rattle.schedule.proofs.Counting.{number_7, by_count, f_counted, all_looked_at}
use Rattle.sets.proofs.Bits.{ones_named}

pub schedule_facts : (s : Schedule) → ScheduleFacts s
schedule_facts s = record {
  passes = question_accepted s;
  passed_by = accepted_question s;
  all_crashes = all_crashes s;
  number_7 = number_7 s;
  by_count = by_count s;
  f_counted = f_counted s;
  all_looked_at = all_looked_at s;
  ones_named = λ i r. ones_named s.n (reach_of s i) r.reach;
}
