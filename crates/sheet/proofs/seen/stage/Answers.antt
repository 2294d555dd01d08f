-- The first end that is reached gives the stage.
use Rattle.std.proofs.Common.{sym, w64}
use mir.Val.{SFits}
use Rattle.std.proofs.lemmas.Int.{to_z-of_z}
use Rattle.sheet.proofs.Stage.{stage_some, stage_none}
use Rattle.sheet.proofs.seen.stage.Goals as goal

pub returns-in-Some : goal.returns-in-Some
returns-in-Some c =
    let f : SFits w64 c.args.metres = c.ranges.metres in
    stage_some c.args.ends.now c.args.metres c.in-Some.k (simp to_z-of_z at (sym c.in-Some.ensures))

pub returns-in-None : goal.returns-in-None
returns-in-None c =
    let f : SFits w64 c.args.metres = c.ranges.metres in
    stage_none c.args.ends.now c.args.metres (simp to_z-of_z at (sym c.in-None.ensures))
