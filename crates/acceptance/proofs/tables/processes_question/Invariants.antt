-- `processes_question` meets its contract: the questions of the processes before place i are answered by yes. Assumes nothing.
use Rattle.std.proofs.Common.{◌≡◌}
use Rattle.laws.specs.Answer.{ask_each}
use Rattle.schedule.specs.Schedule.{schedule_lent}
use Rattle.schedule.specs.Questions.{process_question}
use Rattle.acceptance.proofs.tables.processes_question.Given as goal

abbrev pub invariant-loop-i : goal.invariant-loop-i
invariant-loop-i l = 0 ≡ ask_each l.i (process_question (schedule_lent l.tables))
