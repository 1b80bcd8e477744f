-- `rule_number` meets its contract: each rule's number is the one that Numbered.antt gives. Assumes nothing.
use native.Mathlib.Omega.{arith}
use Rattle.member.proofs.Reasons.{sender_high}
use Rattle.hearing.proofs.HeardRows.{few, short}
use Rattle.hearing.proofs.Numbered.{told_number, quiet_number, count_number, no_number}
use Rattle.member.proofs.Range.{in_range_ranged}
use Rattle.hearing.proofs.reasons.rule_number.Goals as goal

pub overflow_add-result : goal.overflow_add-result
overflow_add-result c =
    let found = c.lowest_sender.ensures.found in
    let high = sender_high c.args.heard.now.row.now in
    let small = short c.args.heard.now in
    omega arith

pub overflow_cast-result : goal.overflow_cast-result
overflow_cast-result c =
    let found = c.lowest_sender.ensures.found in
    let high = sender_high c.args.heard.now.row.now in
    let small = short c.args.heard.now in
    omega arith

pub returns-in-Told : goal.returns-in-Told
returns-in-Told c =
    record { is = told_number _ _ c.in-Told.is c.lowest_sender.ensures.found }

pub returns-in-Quiet : goal.returns-in-Quiet
returns-in-Quiet c =
    record { is = quiet_number _ _ c.args.heard.now.counted c.in-Quiet.is }

pub returns-in-RoundT : goal.returns-in-RoundT
returns-in-RoundT c =
    record { is = count_number _ _ c.args.heard.now.counted c.in-RoundT.is }

pub returns-in_default : goal.returns-in_default
returns-in_default c =
    record { is = let h = c.args.heard.now in no_number c.args.rule h.member.n h.row.now c.in_default.not-Told c.in_default.not-Quiet c.in_default.not-RoundT }

pub overflow_add-result-in-Quiet : goal.overflow_add-result-in-Quiet
overflow_add-result-in-Quiet c =
    let h = c.args.heard.now in
    omega (arith, few h, in_range_ranged _ _ h.in_range)

pub overflow_sub-result : goal.overflow_sub-result
overflow_sub-result c =
    let h = c.args.heard.now in
    omega (arith, few h, in_range_ranged _ _ h.in_range)

pub overflow_add-result-in-RoundT : goal.overflow_add-result-in-RoundT
overflow_add-result-in-RoundT c =
    let h = c.args.heard.now in
    omega (arith, few h, in_range_ranged _ _ h.in_range)
