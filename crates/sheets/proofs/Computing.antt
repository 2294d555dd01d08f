-- To unfold this is to unfold every definition that a case of the depot sheet computes with. Assumes nothing.
use Prim.Native.Nat.{ℕ}
use Rattle.tracking.proofs.Computing as Tracking
use Rattle.sheets.specs.Text as Text
use Rattle.sheets.specs.Field as Field
use Rattle.sheets.specs.Metres as Metres
use Rattle.sheets.specs.Line as Line
use Rattle.sheets.specs.Sheet as Sheet
use Rattle.sheets.specs.Stage as Stage
use Rattle.sheets.specs.Output as Output
use Rattle.sheets.specs.Report as Report

unfoldable pub computing : ℕ
unfolding Tracking.computing Text.text Field.all_digits Field.decimal Field.read_digits Field.read_field Field.column Field.columns Field.write_field
    Metres.floor_of Metres.metres_of Line.fields_read Line.form Line.values Line.read_lines Sheet.read_rows Sheet.read_sheet Stage.passed Stage.stage_of
    Output.line_text Output.refusal_text Output.reading_text Output.readings_text Output.all_metres Report.track_of Report.lines_of Report.answer_of Report.report
computing = 0
