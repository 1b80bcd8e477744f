-- `show_report` lends the bytes that were written: they stand in the array. Assumes nothing.
use Rattle.std.proofs.Common.{sym, arith}
use Prim.Native.Nat.{zero-le}
use lib.Seq.{length-take-le}
use Rattle.buffer.proofs.Written.{writes_inside}
use Rattle.cases.proofs.show_report.Goals as goal

pub slice_bounds-bytes-end : goal.slice_bounds-bytes-end
slice_bounds-bytes-end g c =
    let w = writes_inside c.put_report.ensures.written.writes zero-le in let place = w.0 in let long = w.1 in omega arith

pub slice_bounds-write_all-end : goal.slice_bounds-write_all-end
slice_bounds-write_all-end g c =
    let w = writes_inside c.put_report.ensures.written.writes zero-le in
    let place = w.0 in let long = w.1 in
    sym (length-take-le _ _ (omega arith))
