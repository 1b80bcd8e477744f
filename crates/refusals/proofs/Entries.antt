-- What holds of an entry that is handed out, by the statement about the table. Assumes nothing.
use Rattle.std.proofs.Common.{ℕ, List, ap, slice_get}
use Rattle.laws.specs.Question.{comes_to}
use Rattle.laws.proofs.Lists.{agree_at}
use Rattle.refusals.specs.declared.Refusal.{Refusal}
use Rattle.refusals.specs.Refused.{number_due, RefusedTable, RefusalAt}

-- what stands at place k of the table is handed out for k
pub refusal_handed_out : {table : List Refusal} → RefusedTable table → (k : ℕ) → RefusalAt k (slice_get table k)
refusal_handed_out {table} is k =
    record {
      entry = ap (λ t. slice_get t k) is.entries;
      number = agree_at number_due (λ r. comes_to r.answer) table k is.numbers;
    }
