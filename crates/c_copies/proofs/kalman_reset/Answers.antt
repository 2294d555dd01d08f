-- `kalman_reset` meets its contract: two copies, one behind the other.
use native.Mathlib.Omega.{arith}
use mathlib.Core.Path.{ap, ◌∙◌}
use mathlib.Core.List.{◌++◌}
use Prim.Native.Nat.{ℕ}
use lib.ListN.{length}
use Rattle.std.specs.Prelude.{Ok}
use Rattle.answer.specs.Told.{written}
use Rattle.matrix.proofs.Results.{as_answered}
use Rattle.layout.specs.Layout.{placed}
use Rattle.layout.proofs.Places.{then-placed}
use Rattle.layout.proofs.Calls.{slice-put}
use Rattle.c_copies.specs.Filter.{estimate_place}
use Rattle.c_copies.proofs.Filters.{step_given, length_given, with-passed}
use Rattle.c_copies.proofs.kalman_reset.Goals as goal

pub returns : goal.returns
returns c =
    let a = c.args in
    let s = step_given (λ m. m) a.n a.m a.i (length a.filter.now) a.n (length a.x0.now) c.in_ok-at.ensures in
    let A = s.at in
    let l = length_given c.in_ok-fits.ensures in
    let is = then-placed a.x0.now a.p0.now a.filter.now (omega arith) (omega arith)
    (slice-put _ a.filter.now a.x0.now (omega arith) c.put_slice.ensures)
    (slice-put _ _ a.p0.now (omega (arith, c.put_slice.auto.b)) c.put_slice-2.ensures)
    ∙ ap (λ (j : ℕ). placed j (a.x0.now ++ a.p0.now) a.filter.now) A.x in
    as_answered (written a.filter.now) (placed (estimate_place a.n a.m a.i) (a.x0.now ++ a.p0.now) a.filter.now) (with-passed (λ m. m) a.n a.m a.i (length a.filter.now) a.n (length a.x0.now) s.passed (l ∙ A.square)) (λ t. (Ok tt, is t))
