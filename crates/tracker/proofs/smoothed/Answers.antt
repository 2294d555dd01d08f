-- `smoothed` meets its contract: by what the call of `smooth` tells.
use mathlib.Core.Path.{sym, ◌∙◌}
use native.Mathlib.Omega.{arith}
use Rattle.tracker.proofs.Told.{told-done, told-refused}
use Rattle.tracker.proofs.smoothed.Goals as goal

pub returns-in-Ok : goal.returns-in-Ok
returns-in-Ok c =
    let a = c.args in
    told-done a.slots.now a.stored a.a (omega (arith, c.requires)) (omega (arith, c.requires)) c.smooth.ensures c.in-Ok.is c.gathered.ensures c.gathered-in-Ok.ensures

pub returns-in-Some : goal.returns-in-Some
returns-in-Some c =
    let a = c.args in
    told-refused a.slots.now a.stored a.a (omega (arith, c.requires)) (omega (arith, c.requires)) c.smooth.ensures c.in-Err.is (sym c.in-Some.is ∙ c.latest_rejected.ensures)

pub returns-in-None : goal.returns-in-None
returns-in-None c =
    let a = c.args in
    told-refused a.slots.now a.stored a.a (omega (arith, c.requires)) (omega (arith, c.requires)) c.smooth.ensures c.in-Err.is (sym c.in-None.is ∙ c.latest_rejected.ensures)
