-- `state_out` meets its contract: a part of the filter is copied.
use native.Mathlib.Omega.{arith}
use lib.ListN.{length, take, drop}
use Rattle.std.specs.Prelude.{Ok}
use Rattle.answer.specs.Told.{written}
use Rattle.matrix.proofs.Results.{as_answered}
use Rattle.c_copies.specs.Filter.{state_place_by}
use Rattle.c_copies.proofs.Filters.{step_given, copied}
use Rattle.c_copies.proofs.state_out.Goals as goal

pub offset_bounds-filter-at : goal.offset_bounds-filter-at
offset_bounds-filter-at g c =
    let a = c.args in
    let s = step_given g.W.Noise.columns a.n a.m a.i _ _ _ c.in_ok-at.ensures in
    omega (arith, s.at)

pub slice_bounds-put_slice-end : goal.slice_bounds-put_slice-end
slice_bounds-put_slice-end g c =
    let a = c.args in
    let s = step_given g.W.Noise.columns a.n a.m a.i _ _ _ c.in_ok-at.ensures in
    omega (arith, s.at)

pub returns : goal.returns
returns g c =
    let a = c.args in
    let w = g.W.Noise.columns in
    let s = step_given w a.n a.m a.i (length a.filter.now) a.n (length a.out.now) c.in_ok-at.ensures in
    let A = s.at in
    let is = copied {k = state_place_by w a.n a.m a.i} a.filter.now a.out.now A.x (omega arith) s.same (omega arith) c.put_slice.ensures in
    as_answered (written a.out.now) (take a.n (drop (state_place_by w a.n a.m a.i) a.filter.now)) s.passed (λ t. (Ok tt, is t))
