-- `fuse_sensors` meets its contract: by what is told.
use mathlib.Core.Path.{sym, ◌∙◌}
use Rattle.fusion.proofs.Joining.{ended-done, ended-refused}
use Rattle.fusion.proofs.fuse_sensors.Goals as goal

pub returns-in-Ok : goal.returns-in-Ok
returns-in-Ok c = ended-done c.args.f _ (sym c.fused.ensures ∙ c.in-Ok.is)

pub returns-in-Err : goal.returns-in-Err
returns-in-Err c = ended-refused c.args.f _ (sym c.fused.ensures ∙ c.in-Err.is)
