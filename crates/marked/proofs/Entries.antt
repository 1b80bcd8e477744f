-- What holds of an entry that is handed out, by the statement about its table. Assumes nothing.
use Rattle.std.proofs.Common.{ℕ, List, true, ap, slice_get}
use Rattle.laws.proofs.Lists.{agree_at}
use Rattle.sets.specs.Largest.{largest}
use Rattle.schedule.specs.Questions.{question}
use Rattle.run.specs.Protocol.{fcwfa}
use Rattle.run.specs.Report.{report}
use Rattle.marked.specs.declared.Case.{Case}
use Rattle.marked.specs.Marked.{marked_schedule, expected, MarkedTable, CaseAt}

-- what stands at place k of the table is handed out for k
pub case_handed_out : {table : List Case} → MarkedTable table → (k : ℕ) → CaseAt k (slice_get table k)
case_handed_out {table} is k =
    record {
      entry = ap (λ t. slice_get t k) is.entries;
      accepted = agree_at (λ c. question (marked_schedule c) largest true) (λ c. 0) table k is.accepted;
      results = agree_at (λ c. report fcwfa (marked_schedule c)) expected table k (rw is.entries);
    }
