-- The counts and their numbers: four numbers are the list of what stands at their places. Of a count of crashes, two numbers in their order. Assumes
-- nothing.
use mathlib.Core.Path.{refl}
use Rattle.laws.specs.Below.{sum, count, least, tabulate}
use Rattle.laws.proofs.Lists.{tabulate_entries}
use Rattle.schedule.specs.Schedule.{crashes_in}
use Rattle.schedule.specs.Counting.{looked_at, crashes_counted}
use Rattle.fcwfa_simulator.specs.Numbers.{CountsNumbers, CountedNumbers}

pub counts_numbers_lem : CountsNumbers
unfolding tabulate
counts_numbers_lem = record { reads_back = λ counts. refl; written = λ numbers e. tabulate_entries 0 numbers 4 e; in_order = refl }

pub counted_numbers_lem : CountedNumbers
unfolding sum count least crashes_in looked_at crashes_counted
counted_numbers_lem = record { in_order = refl }
