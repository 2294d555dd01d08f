-- `sqrt_kalman_update` meets its contract: one road by its numbers, a plane with its sizes at hand, and else rows.
use native.Mathlib.Omega.{arith}
use mathlib.Core.Path.{◌≡◌, sym, ◌∙◌}
use Rattle.std.proofs.Common.{rules}
use Rattle.std.specs.Prelude.{Err}
use Rattle.c_roads.proofs.Roads.{passed_of, road_read, pair_put}
use Rattle.c_roads.proofs.Planes.{plane_of}
use Rattle.c_sqrt_steps.specs.Step.{update_in}
use Rattle.c_sqrt_steps.proofs.Roads.{updates, refuses}
use Rattle.c_sqrt_steps.proofs.sqrt_kalman_update.Goals as goal

pub returns-then-is_road-innovation : goal.returns-then-is_road-innovation
returns-then-is_road-innovation c =
    let a = c.args in
    let b = a.filter.now in
    let R = passed_of a.n a.m a.i _ _ _ c.is_road.ensures c.if-is_road-innovation.true in
    updates b a.z.now a.innovation.now R.road R.room c.road_at-f.result (road_read b R.road.long c.road_at-f.ensures) c.update-answer.ensures
    (pair_put b c.update-answer.new.g R.road.long c.put_road.ensures) c.in_ok-innovation.was

pub returns-in_err-innovation : goal.returns-in_err-innovation
returns-in_err-innovation c =
    let a = c.args in
    let b = a.filter.now in
    let e : c.from_residual.result ≡ Err c.in_err-innovation.field-0.0 = search rules in
    let R = passed_of a.n a.m a.i _ _ _ c.is_road.ensures c.if-is_road-innovation.true in
    (λ t. (e t, (c.put_road.new.f, a.innovation.now)))
    ∙ refuses b a.z.now a.innovation.now R.road R.room c.road_at-f.result (road_read b R.road.long c.road_at-f.ensures) c.update-answer.ensures
    (pair_put b c.update-answer.new.g R.road.long c.put_road.ensures) c.in_err-innovation.was

pub returns-then-is_plane : goal.returns-then-is_plane
returns-then-is_plane c =
    let a = c.args in
    let p = plane_of a.n a.m a.i (sym c.is_plane.ensures ∙ c.if-is_plane.true) in
    c.update_rows.ensures ∙ λ k. update_in (p.states k) (p.measurements k) (p.inputs k) a.filter.now a.z.now a.innovation.now

pub bounds-z-0 : goal.bounds-z-0
bounds-z-0 c = let a = c.args in omega (arith, (passed_of a.n a.m a.i _ _ _ c.is_road.ensures c.if-is_road-innovation.true).road.one)
