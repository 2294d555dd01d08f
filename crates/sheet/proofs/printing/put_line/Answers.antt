-- Field after field, and the byte that ends a line.
use Rattle.std.proofs.Common.{◌≡◌, ◌≤◌, ◌++◌, length, get_or, ◌∙◌, arith, rules, w64, pos, add-one, append_assoc}
use mir.Val.{SFits}
use Rattle.std.proofs.lemmas.Int.{to_z-of_z}
use lib.ListN.{length-append}
use lib.Seq.{take_all}
use Rattle.sheets.proofs.FieldBack.{length-field}
use Rattle.sheets.specs.Field.{write_field}
use Rattle.std.proofs.lemmas.Result.{IfOk-at_ok}
use Rattle.sheet.proofs.Text.{line_fields, fields_more}
use Rattle.sheet.proofs.printing.put_line.Goals as goal

pub loop-number-preserved : goal.loop-number-preserved
loop-number-preserved c =
    let l = c.loop-number in
    let e : c.try_extend_from_slice.new.self.items ≡ c.loop-number.text.items ++ c.write_field.result = IfOk-at_ok _ c.unwrap.ensures c.try_extend_from_slice.ensures.ok in
    let f : SFits w64 (get_or c.args.numbers.now c.loop-number.number-index (pos 0)) = search rules in
    let w : c.write_field.result ≡ write_field (get_or c.args.numbers.now c.loop-number.number-index (pos 0)) = simp to_z-of_z at c.write_field.ensures in
    let m : length (write_field (get_or c.args.numbers.now c.loop-number.number-index (pos 0))) ≡ 8 = length-field (get_or c.args.numbers.now c.loop-number.number-index (pos 0)) in (
      e ∙ rw (w, l.invariant.0, add-one, fields_more c.args.numbers.now c.loop-number.number-index c.loop-number-test.true, append_assoc),
      rw (e, length-append, w, m) (omega arith),
      omega arith,
    )

pub returns : goal.returns
returns c =
    let l = c.loop-number in
    let n : length c.args.numbers.now ≤ l.number-index = c.loop-number-test.false in
    c.push.ensures.items ∙ rw (l.invariant.0, take_all l.number-index c.args.numbers.now n, line_fields, append_assoc)
