-- `information_update` meets its contract: one road by its numbers, a plane with its sizes at hand, and else rows.
use native.Mathlib.Omega.{arith}
use mathlib.Core.Path.{◌≡◌, sym, ◌∙◌}
use Rattle.std.proofs.Common.{rules}
use Rattle.std.specs.Prelude.{Err}
use Rattle.c_roads.proofs.Roads.{passed_of, road_read, pair_put}
use Rattle.c_roads.proofs.Planes.{plane_of}
use Rattle.c_information_steps.specs.Steps.{update_in}
use Rattle.c_information_steps.proofs.Roads.{not_updated, updates, refuses}
use Rattle.c_information_steps.proofs.information_update.Goals as goal

pub returns-then-is_road-innovation : goal.returns-then-is_road-innovation
returns-then-is_road-innovation c =
    let a = c.args in
    let f = a.filter.now in
    let R = passed_of a.n a.m a.i _ _ _ c.is_road.ensures c.if-is_road-innovation.true in
    updates f a.z.now a.innovation.now R.road R.room c.road_at-f.result (road_read f R.road.long c.road_at-f.ensures) (sym c.inverse_number.ensures ∙ c.in_ok-w.was)
    c.update_by-answer.ensures (pair_put f c.update_by-answer.result.left R.road.long c.put_road.ensures) c.in_ok-innovation.was

pub returns-in_err-innovation : goal.returns-in_err-innovation
returns-in_err-innovation c =
    let a = c.args in
    let f = a.filter.now in
    let e : c.from_residual-in_err-innovation.result ≡ Err c.in_err-innovation.field-0.0 = search rules in
    let R = passed_of a.n a.m a.i _ _ _ c.is_road.ensures c.if-is_road-innovation.true in
    refuses f a.z.now a.innovation.now R.road R.room c.road_at-f.result (road_read f R.road.long c.road_at-f.ensures) (sym c.inverse_number.ensures ∙ c.in_ok-w.was)
    c.update_by-answer.ensures (pair_put f c.update_by-answer.result.left R.road.long c.put_road.ensures) c.in_err-innovation.was e

pub returns-in_err-w : goal.returns-in_err-w
returns-in_err-w c =
    let a = c.args in
    let f = a.filter.now in
    let e : c.from_residual.result ≡ Err c.in_err-w.field-0.0 = search rules in
    let R = passed_of a.n a.m a.i _ _ _ c.is_road.ensures c.if-is_road-innovation.true in
    not_updated f a.z.now a.innovation.now R.road R.room c.road_at-f.result (road_read f R.road.long c.road_at-f.ensures) (sym c.inverse_number.ensures ∙ c.in_err-w.was) e

pub returns-then-is_plane : goal.returns-then-is_plane
returns-then-is_plane c =
    let a = c.args in
    let p = plane_of a.n a.m a.i (sym c.is_plane.ensures ∙ c.if-is_plane.true) in
    c.update_rows.ensures ∙ λ k. update_in (p.states k) (p.measurements k) (p.inputs k) a.filter.now a.z.now a.innovation.now

pub bounds-z-0 : goal.bounds-z-0
bounds-z-0 c = let a = c.args in let R = passed_of a.n a.m a.i _ _ _ c.is_road.ensures c.if-is_road-innovation.true in omega (arith, R.road.one)
