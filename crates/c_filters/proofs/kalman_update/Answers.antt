-- `kalman_update` meets its contract: one road by its numbers, a plane with its sizes at hand, and else rows.
use native.Mathlib.Omega.{arith}
use mathlib.Core.Path.{◌≡◌, refl, sym, ap, ◌∙◌}
use Rattle.std.proofs.Common.{rules}
use Rattle.std.specs.Prelude.{Ok, Err}
use Rattle.answer.specs.Answer.{mapped}
use Rattle.road.specs.declared.Innovation.{Innovation}
use Rattle.road.proofs.Roads.{told_by}
use Rattle.c_copies.specs.Filter.{update_in}
use Rattle.c_roads.proofs.Roads.{passed_of, road_read, pair_put, updates, refuses}
use Rattle.c_roads.proofs.Planes.{plane_of}
use Rattle.c_filters.proofs.kalman_update.Goals as goal

pub returns-then-is_road-innovation : goal.returns-then-is_road-innovation
returns-then-is_road-innovation c =
    let a = c.args in
    let R = passed_of a.n a.m a.i _ _ _ c.is_road.ensures c.if-is_road-innovation.true in
    let F = c.road_at-f.result in
    let l = R.road.long in
    let v = c.in_ok-v.v in
    let s = (λ t. (Ok v.innovation, c.corrected-e.ensures t)) ∙ ap (told_by F.sensor F.pair) (sym c.in_ok-v.was) ∙ c.innovation.ensures in
    updates a.filter.now a.z.now a.innovation.now R.road R.room (road_read a.filter.now l c.road_at-f.ensures) s refl
    (pair_put a.filter.now c.corrected-e.result l c.put_road.ensures)

pub returns-in_err-v : goal.returns-in_err-v
returns-in_err-v c =
    let a = c.args in
    let R = passed_of a.n a.m a.i _ _ _ c.is_road.ensures c.if-is_road-innovation.true in
    let e : c.from_residual.result ≡ Err c.in_err-v.field-0.0 = search rules in
    (λ t. (e t, (a.filter.now, a.innovation.now)))
    ∙ refuses a.filter.now a.z.now a.innovation.now R.road R.room (road_read a.filter.now R.road.long c.road_at-f.ensures) c.innovation.ensures
    (ap (mapped (λ (i : Innovation). i.innovation)) c.in_err-v.was)

pub returns-then-is_plane : goal.returns-then-is_plane
returns-then-is_plane c =
    let a = c.args in
    let p = plane_of a.n a.m a.i (sym c.is_plane.ensures ∙ c.if-is_plane.true) in
    c.update_rows.ensures ∙ λ k. update_in (p.states k) (p.measurements k) (p.inputs k) a.filter.now a.z.now a.innovation.now

pub bounds-z-0 : goal.bounds-z-0
bounds-z-0 c = let a = c.args in let R = passed_of a.n a.m a.i _ _ _ c.is_road.ensures c.if-is_road-innovation.true in omega (arith, R.road.one)

pub bounds-innovation-0 : goal.bounds-innovation-0
bounds-innovation-0 c = let a = c.args in let R = passed_of a.n a.m a.i _ _ _ c.is_road.ensures c.if-is_road-innovation.true in omega (arith, R.room)
