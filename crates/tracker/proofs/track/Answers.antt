-- `track` meets its contract: the readings that are used are the first of those given, and then by what the filter tells.
use mathlib.Core.Path.{◌≡◌, sym, ap, ◌∙◌}
use Prim.Native.Nat.{ℕ}
use native.Mathlib.Omega.{arith}
use lib.ListN.{length, take}
use lib.Seq.{length-take-le}
use Rattle.road.specs.Road.{matrix_of}
use Rattle.duty.specs.Buffer.{slots_of}
use Rattle.tracker.specs.Tracked.{smoothed_of}
use Rattle.tracker.proofs.Ways.{first_of, track-rejected, track-smoothed}
use Rattle.tracker.proofs.track.Goals as goal

pub returns-in_err-filter : goal.returns-in_err-filter
returns-in_err-filter c =
    let a = c.args in
    track-rejected a.settings c.position_velocity-f.result c.position_velocity-f.ensures a.readings.now _ (first_of a.readings.now c.min-used.ensures) c.filter.result _
    c.filter.ensures _ c.from_residual.ensures.1 c.in_err-filter.was

pub returns : goal.returns
returns c =
    let a = c.args in
    let z = a.readings.now in
    let f = c.position_velocity-f.result in
    let n = c.min-used.result in
    let long : length (take n z) ≡ n = length-take-le n z (omega arith) in
    track-smoothed a.settings f c.position_velocity-f.ensures z _ (first_of z c.min-used.ensures) c.filter.result _
    c.filter.ensures c.in_ok-filter.was (c.smoothed.ensures ∙ ap (λ (n : ℕ). smoothed_of (matrix_of f.motion.a) (slots_of 2 c.filter.new.slots n)) (sym long))
