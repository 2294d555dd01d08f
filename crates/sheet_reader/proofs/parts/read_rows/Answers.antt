-- The lines are read one by one, each by what the line before said.
use Rattle.std.proofs.Common.{sym, arith}
use Rattle.sheet_reader.proofs.Fill.{fill_none, fill_bad, fill_out, fill_more, fill_all, stopped, some_of}
use Rattle.sheet_reader.proofs.parts.read_rows.Goals as goal

pub loop-i-init : goal.loop-i-init
loop-i-init g c = fill_none _ _ _ _ _ _ _ _ _ (g.met.R.Row.starts _ c.default-before.ensures)

pub returns-in_err-numbers : goal.returns-in_err-numbers
returns-in_err-numbers g c =
    let (o, r) = stopped c.line.result c.at_line.result c.from_residual.result c.in_err-numbers.ensures.value c.from_residual.ensures.1 in
    rw (r, c.at_line.ensures) (sym (fill_bad c.loop-i.invariant c.loop-i-test.true c.line.ensures o))

pub returns-in_err-before : goal.returns-in_err-before
returns-in_err-before g c =
    let v = some_of c.line.result c.at_line.result c.in_ok-numbers.numbers c.in_ok-numbers.ensures.value in
    let (o, r) = stopped c.after.result c.at_line-in-loop-i.result c.from_residual-in_err-before.result c.in_err-before.ensures.value c.from_residual-in_err-before.ensures.1 in
    rw (r, c.at_line-in-loop-i.ensures) (sym (fill_out c.loop-i.invariant c.loop-i-test.true c.line.ensures v c.after.ensures o))

pub loop-i-preserved : goal.loop-i-preserved
loop-i-preserved g c =
    let v = some_of c.line.result c.at_line.result c.in_ok-numbers.numbers c.in_ok-numbers.ensures.value in
    let u = some_of c.after.result c.at_line-in-loop-i.result c.in_ok-before.before c.in_ok-before.ensures.value in
    fill_more c.loop-i.invariant c.loop-i-test.true c.line.ensures v c.after.ensures (omega arith) u

pub returns : goal.returns
returns g c = sym (fill_all c.loop-i.invariant c.loop-i-test.false)
