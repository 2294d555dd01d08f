-- Line after line, 25 bytes each.
use Rattle.std.proofs.Common.{◌≡◌, ◌+◌, ◌++◌, get_or, ◌∙◌, arith, rules, w64, pos, ◌+ℤ◌, to_z, of_z, append_assoc, append-nil}
use mir.Val.{SFits}
use lib.ListN.{length-append}
use Rattle.std.proofs.lemmas.Int.{ints, to_z-of_z}
use Rattle.sheets.specs.Output.{reading_text}
use Rattle.sheets.specs.Stage.{stage_of}
use Rattle.sheets.proofs.Printing.{lines_none, length_reading}
use Rattle.sheet.proofs.Stage.{stage_small}
use Rattle.sheet.proofs.Text.{lines_more}
use Rattle.sheet.proofs.printing.put_lines.Goals as goal

pub loop-i-init : goal.loop-i-init
loop-i-init c = (rw (lines_none, append-nil), omega arith, omega arith)

pub overflow_cast-stage : goal.overflow_cast-stage
overflow_cast-stage c =
    let h = stage_small c.args.ends.now (to_z w64 (of_z w64 (get_or c.args.metres.now c.loop-i.i (pos 0)))) in
    omega (arith, ints, c.stage.ensures)

pub loop-i-preserved : goal.loop-i-preserved
unfolding reading_text
loop-i-preserved c =
    let l = c.loop-i in
    let f : SFits w64 (get_or c.args.metres.now c.loop-i.i (pos 0)) = search rules in
    let e : c.stage.result ≡ stage_of c.args.ends.now (get_or c.args.metres.now c.loop-i.i (pos 0)) = simp to_z-of_z at c.stage.ensures in
    let h = stage_small c.args.ends.now (get_or c.args.metres.now c.loop-i.i (pos 0)) in
    let n : to_z w64 (of_z w64 (to_z w64 c.loop-i.i +ℤ pos 1)) ≡ pos (c.loop-i.i + 1) = omega (arith, ints) in
    let g : to_z w64 c.stage.result ≡ pos c.stage.result = omega (arith, ints) in
    let d : c.put_line.new.text.items ≡ c.loop-i.text.items ++ reading_text (c.loop-i.i + 1) c.args.ends.now (get_or c.args.metres.now c.loop-i.i (pos 0)) =
    c.put_line.ensures ∙ rw (n, g, to_z-of_z, e) in
    let r = length_reading (c.loop-i.i + 1) c.args.ends.now (get_or c.args.metres.now c.loop-i.i (pos 0)) in (
      d ∙ rw (l.invariant.0, lines_more c.args.ends.now c.args.metres.now c.loop-i.i c.loop-i-test.true, append_assoc),
      rw (d, length-append, r) (omega arith),
      omega arith,
    )
