-- The parts of a sheet are read one after another.
use Rattle.std.proofs.lemmas.Result.{err_from_is_err_and}
use Rattle.sheet_reader.proofs.Whole.{head_refused, ends_refused, readings_refused, more_refused, sheet_read}
use Rattle.sheet_reader.proofs.read_sheet.Goals as goal

pub returns-in_err-head : goal.returns-in_err-head
returns-in_err-head c =
    let p = err_from_is_err_and c.from_residual.result c.from_residual.ensures.1 in
    rw (p.1, p.2) (head_refused c.args.s.now c.in_err-head.field-0.0 c.in_err-head.ensures.read)

pub returns-in_err-ends : goal.returns-in_err-ends
returns-in_err-ends c =
    let p = err_from_is_err_and c.from_residual-in_err-ends.result c.from_residual-in_err-ends.ensures.1 in
    rw (p.1, p.2) (ends_refused c.args.s.now c.in_ok-head.head c.in_ok-head.ensures.read c.in_err-ends.field-0.0 c.in_err-ends.ensures)

pub returns-in_err-readings : goal.returns-in_err-readings
returns-in_err-readings c =
    let p = err_from_is_err_and c.from_residual-in_err-readings.result c.from_residual-in_err-readings.ensures.1 in
    rw (p.1, p.2)
    (readings_refused c.args.s.now c.in_ok-head.head c.in_ok-head.ensures.read c.in_ok-ends.ends c.in_ok-ends.ensures c.in_err-readings.field-0.0 c.in_err-readings.ensures)

pub returns-then-s-from : goal.returns-then-s-from
returns-then-s-from c =
    rw c.at_line.ensures
    (more_refused c.args.s.now c.in_ok-head.head c.in_ok-head.ensures.read c.in_ok-ends.ends c.in_ok-ends.ensures c.in_ok-readings.readings c.in_ok-readings.ensures c.if-s-from.true)

pub returns : goal.returns
returns c =
    sheet_read c.args.s.now c.in_ok-head.head c.in_ok-head.ensures.read c.in_ok-ends.ends c.in_ok-ends.ensures c.in_ok-readings.readings c.in_ok-readings.ensures
    c.if-s-from.false
