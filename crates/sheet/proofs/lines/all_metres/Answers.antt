-- Position after position; the first without whole metres is refused with 9.
use Rattle.std.proofs.Common.{sym, ◌∙◌, rules, w64}
use mir.Val.{SFits}
use lib.Ieee.{nan}
use Rattle.std.proofs.lemmas.Int.{to_z-of_z}
use Rattle.sheet_reader.proofs.Fill.{stopped, some_of}
use Rattle.sheet.proofs.Metres.{marks_all, marks_bad, marks_more}
use Rattle.sheet.proofs.lines.all_metres.Goals as goal

pub returns-in_err-ok_or : goal.returns-in_err-ok_or
returns-in_err-ok_or c =
    let (o, r) = stopped c.whole_metres.result _ c.from_residual.result c.in_err-ok_or.ensures.value c.from_residual.ensures.1 in
    rw r (sym (marks_bad c.loop-i.invariant nan c.loop-i-test.true (sym c.whole_metres.ensures ∙ o)))

pub loop-i-preserved : goal.loop-i-preserved
loop-i-preserved c =
    let v = some_of c.whole_metres.result _ c.in_ok-ok_or.field-0 c.in_ok-ok_or.ensures.value in
    let f : SFits w64 c.in_ok-ok_or.field-0 = search rules in
    rw (c.push.ensures.items, to_z-of_z) (marks_more c.loop-i.invariant nan c.loop-i-test.true c.in_ok-ok_or.field-0 (sym c.whole_metres.ensures ∙ v))

pub returns : goal.returns
returns c = sym (marks_all c.loop-i.invariant c.loop-i-test.false)
