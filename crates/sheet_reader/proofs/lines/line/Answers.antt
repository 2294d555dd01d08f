-- A line's fields are read one by one.
use Rattle.std.proofs.Common.{sym, ◌∙◌, arith, rules, w64}
use mir.Val.{SFits}
use Rattle.std.proofs.lemmas.Int.{to_z-of_z}
use Rattle.sheet_reader.proofs.Line.{reads_bad, reads_more, reads_all}
use Rattle.sheet_reader.proofs.lines.line.Goals as goal

pub returns-in_err-number : goal.returns-in_err-number
returns-in_err-number g c = c.from_residual-in_err-number.ensures ∙ reads_bad c.loop-k.invariant c.loop-k-test.true (sym c.in_err-number.ensures)

pub loop-k-preserved : goal.loop-k-preserved
loop-k-preserved g c = let r = reads_more c.loop-k.invariant c.in_ok-number.field-0 c.loop-k-test.true (sym c.in_ok-number.ensures) in
    let f : SFits w64 c.in_ok-number.field-0 = search rules in
    simp to_z-of_z r

pub returns : goal.returns
returns g c = reads_all c.loop-k.invariant (omega arith) (omega arith)
