-- Line 1 is read, and then its numbers.
use Rattle.std.proofs.Common.{◌≡◌, sym, ◌∙◌, rules, w64}
use mir.Val.{SFits}
use Rattle.std.proofs.lemmas.Int.{to_z-of_z}
use Rattle.sheets.specs.Line.{nth}
use Rattle.sheet_reader.specs.Held.{head_in}
use Rattle.sheet_reader.proofs.HeadLine.{head_bad, head_read, head_few}
use Rattle.sheet_reader.proofs.Fill.{stopped, some_of}
use Rattle.sheet_reader.proofs.head.read_head.Goals as goal

pub returns-in_err-step-clause-read : goal.returns-in_err-step-clause-read
returns-in_err-step-clause-read c =
    let (o, r) = stopped c.line.result c.at_line.result c.from_residual.result c.in_err-step.ensures.value c.from_residual.ensures.1 in
    rw (r, c.at_line.ensures) (sym (head_bad c.args.s.now (sym c.line.ensures ∙ o)))

pub returns-clause-read : goal.returns-clause-read
returns-clause-read c =
    let v = some_of c.line.result c.at_line.result c.in_ok-step.field-0 c.in_ok-step.ensures.value in
    let k0 : SFits w64 (nth c.in_ok-step.field-0 0) = search rules in
    let k1 : SFits w64 (nth c.in_ok-step.field-0 1) = search rules in
    let k2 : SFits w64 (nth c.in_ok-step.field-0 2) = search rules in
    let k3 : SFits w64 (nth c.in_ok-step.field-0 3) = search rules in
    let k4 : SFits w64 (nth c.in_ok-step.field-0 4) = search rules in
    let h : c.head_of.result ≡ head_in c.in_ok-step.field-0 = simp to_z-of_z at c.head_of.ensures in
    c.ok_or-2.ensures.value ∙ rw (h, c.at_line-2.ensures) (sym (head_read c.args.s.now c.in_ok-step.field-0 (sym c.line.ensures ∙ v)))

pub returns-clause-few : goal.returns-clause-few
returns-clause-few c = head_few c.args.s.now c.ok_or-2.result (returns-clause-read c)
