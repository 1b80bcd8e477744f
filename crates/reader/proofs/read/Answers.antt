-- `read` meets its contract: what the tables, the head, the lines of the processes and the end of the text answer, in order, is the answer. Assumes nothing.
use Rattle.std.proofs.Common.{◌≡◌, ◌≤◌, true, sym, ◌∙◌, length}
use Rattle.std.proofs.lemmas.Result.{err_from_is_err_and}
use lib.ListN.{take}
use native.Mathlib.Omega.{arith}
use Rattle.sets.specs.Largest.{largest}
use Rattle.schedule.specs.Questions.{tables_of}
use Rattle.schedule.proofs.Accepted.{all_of_size}
use Rattle.text.specs.Reading.{longest, sizes_in, tail_questions, rest_questions}
use Rattle.reader.specs.Answers.{read_questions}
use Rattle.reader.proofs.Whole.{tables_refuse, head_refused, head_passed, lines_refuse, lines_pass, refuses, reads}
use Rattle.reader.proofs.read.Goals as goal
use Rattle.reader.proofs.read.Goals.{Else-not-are_of_size, In_ok-sizes, In_ok-read_processes}

pub returns-then-not-are_of_size : goal.returns-then-not-are_of_size
returns-then-not-are_of_size c =
    let a = c.args in
    record { read = rw c.refused_by.ensures.is (refuses _ _ _ _ _ (tables_refuse a.text.now largest longest a.votes.now a.crashes.now a.reaches.now (sym c.if-not-are_of_size.ensures.tested))) }

-- the tables are of their size
sized : (c : Else-not-are_of_size) → let a = c.args in tables_of largest (length a.votes.now) (length a.crashes.now) (length a.reaches.now) ≡ true
sized c = sym c.if-not-are_of_size.ensures.tested

pub returns-in_err-sizes : goal.returns-in_err-sizes
returns-in_err-sizes c =
    let p = err_from_is_err_and c.from_residual.result c.from_residual.ensures.1 in
    let a = c.args in
    let e = head_refused a.text.now largest longest a.votes.now a.crashes.now a.reaches.now (sized (goal.at.returns-in_err-sizes c).Else-not-are_of_size) c.in_err-sizes.ensures.asked in
    record { read = rw (p.1, p.2) (refuses _ _ _ _ _ e) }

-- the sizes are those of the text, and what is left to ask are the questions of the rest
passed_head : (c : In_ok-sizes) → let a = c.args in let text = a.text.now in
    (read_questions largest longest text a.votes.now a.crashes.now a.reaches.now ≡ rest_questions text)
    × (sizes_in text ≡ c.in_ok-sizes.sizes)
    × (c.in_ok-sizes.sizes.n ≤ largest)
passed_head c =
    let a = c.args in
    head_passed a.text.now largest longest a.votes.now a.crashes.now a.reaches.now (sized (goal.at.In_ok-sizes c).Else-not-are_of_size) c.in_ok-sizes.ensures.asked

pub read_processes-requires : goal.read_processes-requires
read_processes-requires c =
    let p = passed_head (goal.at.read_processes-requires c).In_ok-sizes in
    record { sizes = (p.2, p.1) }

pub returns-in_err-read_processes : goal.returns-in_err-read_processes
returns-in_err-read_processes c =
    let p = err_from_is_err_and c.from_residual-in_err-read_processes.result c.from_residual-in_err-read_processes.ensures.1 in
    let h = passed_head (goal.at.returns-in_err-read_processes c).In_ok-sizes in
    record { read = rw (p.1, p.2) (refuses _ _ _ _ _ (h.0 ∙ lines_refuse _ _ h.1 (sym c.in_err-read_processes.ensures.asked))) }

pub read_tail-requires : goal.read_tail-requires
read_tail-requires c =
    record { size = (passed_head (goal.at.read_tail-requires c).In_ok-sizes).2 }

-- the lines are passed, so what is asked after them is what is left
tail_left : (c : In_ok-read_processes) → let a = c.args in let s = c.in_ok-sizes.sizes in
    tail_questions a.text.now s.n s.t (take s.n c.read_processes.new.entries.crashes) ≡ read_questions largest longest a.text.now a.votes.now a.crashes.now a.reaches.now
tail_left c =
    let h = passed_head (goal.at.In_ok-read_processes c).In_ok-sizes in
    lines_pass _ _ h.1 h.2 (sym c.in_ok-read_processes.ensures.asked) c.in_ok-read_processes.ensures.entries.1 ∙ sym h.0

pub returns-in_err-read_tail : goal.returns-in_err-read_tail
returns-in_err-read_tail c =
    let p = err_from_is_err_and c.from_residual-in_err-read_tail.result c.from_residual-in_err-read_tail.ensures.1 in
    record { read = rw (p.1, p.2) (refuses _ _ _ _ _ (sym (c.in_err-read_tail.ensures.asked ∙ tail_left (goal.at.returns-in_err-read_tail c).In_ok-read_processes))) }

pub fill-requires : goal.fill-requires
fill-requires c =
    let at = goal.at.fill-requires c in
    record { size = omega (arith, (passed_head at.In_ok-sizes).2); long = all_of_size largest _ _ _ (sized at.Else-not-are_of_size) }

pub returns : goal.returns
returns c =
    let at = goal.at.returns c in
    let h = passed_head at.In_ok-sizes in
    record {
      read = reads _ _ _ _ c.in_ok-sizes.sizes h.1 h.2 (sym (c.in_ok-read_tail.ensures.asked ∙ tail_left at.In_ok-read_processes)) c.in_ok-read_processes.ensures.entries c.fill.ensures.filled;
    }
