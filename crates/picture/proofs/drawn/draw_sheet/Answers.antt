-- A sheet that is answered is read, and its readings are tracked.
use Rattle.std.proofs.Common.{sym, ◌∙◌}
use Rattle.picture.proofs.Answered.{is_read, is_tracked}
use Rattle.picture.proofs.drawn.draw_sheet.Goals as goal

pub unwrap-sheet-requires : goal.unwrap-sheet-requires
unwrap-sheet-requires c = is_read c.args.sheet.now c.read_sheet.result c.read_sheet.ensures c.requires

pub unwrap-positions-requires : goal.unwrap-positions-requires
unwrap-positions-requires c =
    is_tracked c.args.sheet.now c.unwrap-sheet.result c.positions_of.result (sym c.unwrap-sheet.ensures ∙ c.read_sheet.ensures) c.positions_of.ensures.positions c.requires
