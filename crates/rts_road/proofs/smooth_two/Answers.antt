-- `smooth_two` meets its contract: by what the inversion answers.
use Rattle.rts_road.proofs.Slots.{two-done, two-refused}
use Rattle.rts_road.proofs.smooth_two.Goals as goal

pub returns-in_err-w : goal.returns-in_err-w
returns-in_err-w c = let x = c.args in two-refused x.e x.y x.next x.f c.inverse.ensures _ c.from_residual.ensures.1 c.in_err-w.was

pub returns : goal.returns
returns c = let x = c.args in two-done x.e x.y x.next x.f c.inverse.ensures c.in_ok-w.was c.gain-g.ensures c.corrected_two.ensures
