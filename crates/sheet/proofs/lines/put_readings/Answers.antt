-- A sheet is read, tracked and rounded; the first refusal stands.
use Rattle.std.proofs.lemmas.Result.{err_from_is_err_and}
use Rattle.sheet.proofs.Reporting.{lines_err, lines_bad, lines_good}
use Rattle.sheet.proofs.lines.put_readings.Goals as goal

pub returns-in_err-metres-in-Ok-clause-said : goal.returns-in_err-metres-in-Ok-clause-said
returns-in_err-metres-in-Ok-clause-said c =
    let p = err_from_is_err_and c.from_residual-in_err-metres-in-Ok.result c.from_residual-in_err-metres-in-Ok.ensures.1 in
    let m = rw (c.ends.ensures.held, c.readings.ensures.held) at c.in_err-metres-in-Ok.ensures in
    rw (p.1, p.2) (lines_bad c.args.s.now c.in_ok-sheet.sheet c.in_ok-sheet.ensures c.in-Ok.positions c.in-Ok.ensures.positions c.in_err-metres-in-Ok.field-0.0 m)

pub returns-in_ok-metres-in-Ok-clause-said : goal.returns-in_ok-metres-in-Ok-clause-said
returns-in_ok-metres-in-Ok-clause-said c =
    let m = rw (c.ends.ensures.held, c.readings.ensures.held) at c.in_ok-metres-in-Ok.ensures in
    rw (c.put_lines.ensures, c.requires, c.ends-in-Ok.ensures.held, c.as_slice.ensures.value)
    (lines_good c.args.s.now c.in_ok-sheet.sheet c.in_ok-sheet.ensures c.in-Ok.positions c.in-Ok.ensures.positions c.in_ok-metres-in-Ok.metres m)

pub returns-in-Err-clause-said : goal.returns-in-Err-clause-said
returns-in-Err-clause-said c = rw c.ends.ensures.held (lines_err c.args.s.now c.in_ok-sheet.sheet c.in_ok-sheet.ensures c.in-Err.rejected c.in-Err.ensures.positions)
