-- `update_road` meets its contract: by what the innovation answers.
use mathlib.Core.Path.{ap, ◌∙◌}
use mathlib.Core.List.{[], ◌∷◌}
use Rattle.std.specs.Prelude.{Ok}
use Rattle.algebra.specs.Array.{cut, pad_row}
use Rattle.filtering.specs.Linear.{update}
use Rattle.filtering.proofs.Shapes.{way}
use Rattle.answer.proofs.Exits.{exit}
use Rattle.road.specs.Road.{updated_of}
use Rattle.kalman.specs.Record.{estimate_flat, holding}
use Rattle.kalman.proofs.Steps.{road_refused, road_answered}
use Rattle.kalman.proofs.KalmanFilter.update_road.Goals as goal

pub returns-in_err-found : goal.returns-in_err-found
unfolding cut
returns-in_err-found c =
    let f = c.args.self.now in
    let q = c.in_err-found.ensures ∙ λ k. updated_of (c.pair-e.ensures k) (update (c.sensor-sensor.ensures k) (cut 1 c.args.z.now) (c.pair-e.ensures k)) in
    (λ k. (exit c.from_residual.ensures.1 k, f)) ∙ road_refused f (estimate_flat 2 f.x f.p) (way _ _ _) q

pub returns : goal.returns
unfolding cut
returns c =
    let f = c.args.self.now in
    let q = c.in_ok-found.ensures ∙ λ k. updated_of (c.pair-e.ensures k) (update (c.sensor-sensor.ensures k) (cut 1 c.args.z.now) (c.pair-e.ensures k)) in
    (λ k. (Ok (pad_row (c.in_ok-found.found.innovation ∷ [])), (c.put_pair.ensures ∙ ap (holding f) c.corrected.ensures) k))
    ∙ road_answered f (estimate_flat 2 f.x f.p) (way _ _ _) q
