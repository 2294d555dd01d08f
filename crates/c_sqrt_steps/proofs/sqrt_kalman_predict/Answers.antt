-- `sqrt_kalman_predict` meets its contract: one road by its numbers, a plane with its sizes at hand, and else rows.
use native.Mathlib.Omega.{arith}
use mathlib.Core.Path.{sym, ◌∙◌}
use Rattle.c_roads.proofs.Roads.{road_of, road_read, pair_put}
use Rattle.c_roads.proofs.Planes.{plane_of}
use Rattle.c_sqrt_steps.specs.Step.{predict_in}
use Rattle.c_sqrt_steps.proofs.Roads.{predicts}
use Rattle.c_sqrt_steps.proofs.sqrt_kalman_predict.Goals as goal

pub returns-then-is_road : goal.returns-then-is_road
returns-then-is_road c =
    let a = c.args in
    let b = a.filter.now in
    let R = road_of a.n a.m a.i _ _ (sym c.is_road.ensures ∙ c.if-is_road.true) in
    predicts b a.u.now R c.road_at-f.result (road_read b R.long c.road_at-f.ensures) c.predict-answer.ensures (pair_put b c.predict-answer.new.g R.long c.put_road.ensures)

pub returns-then-is_plane : goal.returns-then-is_plane
returns-then-is_plane c =
    let a = c.args in
    let p = plane_of a.n a.m a.i (sym c.is_plane.ensures ∙ c.if-is_plane.true) in
    c.predict_rows.ensures ∙ λ k. predict_in (p.states k) (p.measurements k) (p.inputs k) a.filter.now a.u.now

pub bounds-u-0 : goal.bounds-u-0
bounds-u-0 c = let a = c.args in omega (arith, (road_of a.n a.m a.i _ _ (sym c.is_road.ensures ∙ c.if-is_road.true)).one)
