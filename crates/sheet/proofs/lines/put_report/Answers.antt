-- The lines of a sheet, or its refusal's.
use Rattle.std.proofs.Common.{◌≡◌, ◌∙◌, arith, w64, pos, to_z, of_z}
use Rattle.std.proofs.lemmas.Int.{ints}
use Rattle.answer.specs.Told.{number}
use Rattle.sheet.proofs.Text.{text_of_lines, text_of_refusal}
use Rattle.sheet.proofs.lines.put_report.Goals as goal

pub returns-in-Err : goal.returns-in-Err
returns-in-Err c =
    let a : to_z w64 (of_z w64 c.from.result) ≡ pos (number c.in-Err.refused.refusal) = omega (arith, ints, c.from.ensures, c.from-number.ensures) in
    let b : to_z w64 (of_z w64 c.from-in-Err.result) ≡ pos c.in-Err.refused.line = omega (arith, ints, c.from-in-Err.ensures) in
    c.put_line.ensures ∙ rw (c.in-Err.ensures.unwritten, a, b) (text_of_refusal c.args.sheet.now c.in-Err.refused c.in-Err.ensures.said)

pub returns-in_default : goal.returns-in_default
returns-in_default c = text_of_lines c.args.sheet.now c.put_readings.new.text.items c.in_default.ensures.said
