-- `square_out` meets its contract: the filter's last numbers are copied.
use native.Mathlib.Omega.{arith}
use Prim.Native.Nat.{◌+◌, ◌*◌}
use lib.ListN.{length, take, drop}
use Rattle.std.specs.Prelude.{Ok}
use Rattle.answer.specs.Told.{written}
use Rattle.matrix.proofs.Results.{as_answered}
use Rattle.c_copies.specs.Filter.{state_place_by}
use Rattle.c_copies.proofs.Filters.{filter_given, length_given, square-passed, copied}
use Rattle.c_copies.proofs.square_out.Goals as goal

pub offset_bounds-filter-at : goal.offset_bounds-filter-at
offset_bounds-filter-at g c =
    let a = c.args in
    let s = filter_given g.W.Noise.columns a.n a.m a.i _ c.in_ok-at.ensures in
    omega (arith, s.at)

pub slice_bounds-put_slice-end : goal.slice_bounds-put_slice-end
slice_bounds-put_slice-end g c =
    let a = c.args in
    let s = filter_given g.W.Noise.columns a.n a.m a.i _ c.in_ok-at.ensures in
    omega (arith, s.at)

pub returns : goal.returns
returns g c =
    let a = c.args in
    let w = g.W.Noise.columns in
    let s = filter_given w a.n a.m a.i (length a.filter.now) c.in_ok-at.ensures in
    let A = s.at in
    let l = length_given c.in_ok-fits.ensures in
    let is = copied {k = state_place_by w a.n a.m a.i + a.n} a.filter.now a.out.now (omega arith) (omega arith) (omega arith) (omega arith) c.put_slice.ensures in
    as_answered (written a.out.now) (take (a.n * a.n) (drop (state_place_by w a.n a.m a.i + a.n) a.filter.now)) (square-passed w a.n a.m a.i (length a.filter.now) s.passed A.square l) (λ t. (Ok tt, is t))
