-- `printed` meets its contract: an answer of the reader's with n and t means an accepted text whose schedule is in the tables, and a refusal a refused
-- text. Assumes nothing.
use mathlib.Core.Path.{◌≡◌, ap, ◌∙◌}
use borrow.Author.Rules.{rules}
use lib.ListN.{take}
use Rattle.laws.specs.Answer.{accepted, refused}
use Rattle.laws.specs.Question.{question_number}
use Rattle.sets.specs.Largest.{largest}
use Rattle.schedule.specs.Schedule.{schedule_of}
use Rattle.schedule.proofs.Accepted.{of_size}
use Rattle.text.specs.Reading.{longest, schedule_in, text_answer}
use Rattle.text.proofs.Accepted.{line_short}
use Rattle.reader.specs.Answers.{read_answer}
use Rattle.reader.proofs.Texts.{schedule_read_lem, text_refused}
use Rattle.output.specs.Answers.{output_is, shown_of}
use Rattle.output.proofs.Texts.{n_small, read_question, accepted_printed, refusal_printed, counts, keeps_promises}
use Rattle.output.proofs.printed.Goals as goal
use Rattle.output.proofs.printed.Goals.{In-Err, In-Ok}

-- the text is accepted
accepts : (c : In-Ok) → accepted c.in-Ok.sizes ≡ read_answer largest longest c.args.text.now c.blank_table-votes.result c.blank_table-crashes.result c.blank_table-reaches.result
accepts c = c.in-Ok.ensures.read.answered

-- and its schedule stands in the first n entries of the tables
schedule : (c : In-Ok) → let n = c.in-Ok.sizes.n in let t = c.in-Ok.sizes.t in
    schedule_of n t (take n c.read.new.votes) (take n c.read.new.crashes) (take n c.read.new.reaches) ≡ schedule_in c.args.text.now
schedule c =
    schedule_read_lem largest longest _ _ _ _ (accepts c) _ _ _ c.read.ensures.read.votes_read c.read.ensures.read.crashes_read c.read.ensures.read.reaches_read

pub of_tables-requires : goal.of_tables-requires
of_tables-requires c =
    let at = (goal.at.of_tables-requires c).In-Ok in
    record { size = n_small _ _ _ _ (accepts at); accepted = read_question _ _ _ _ (accepts at) _ (schedule at) }

-- the text is refused: the reader's own tables have an entry for each process of the largest cluster, so it is not for them
refuses : (c : In-Err) → text_answer c.args.text.now largest longest ≡ refused (question_number c.in-Err.refusal.question) c.in-Err.refusal.back
refuses c = text_refused largest longest _ _ _ _ (of_size largest (search rules) (search rules) (search rules)) c.in-Err.ensures.read.answered

pub refused-requires : goal.refused-requires
refused-requires c =
    record { short = line_short _ _ _ _ _ (refuses (goal.at.refused-requires c).In-Err) }

pub returns-in-Ok : goal.returns-in-Ok
returns-in-Ok c =
    let at = (goal.at.returns-in-Ok c).In-Ok in
    let shown = accepted_printed c.args.text.now _ _ _ (accepts at) (shown_of c.args.wanted) _ (schedule at) in
    let e = c.of_tables.ensures.output ∙ ap output_is shown in
    record { output = e; fits = counts _ e; promises = keeps_promises c.args.wanted _ e }

pub returns-in-Err : goal.returns-in-Err
returns-in-Err c =
    let shown = refusal_printed c.args.text.now (refuses (goal.at.returns-in-Err c).In-Err) (shown_of c.args.wanted) in
    let e = c.refused.ensures.output ∙ ap output_is shown in
    record { output = e; fits = counts _ e; promises = keeps_promises c.args.wanted _ e }
