-- `sqrt_kalman_reset` meets its contract: by what Cholesky answers.
use native.Mathlib.Omega.{arith}
use mathlib.Core.Path.{◌≡◌, ◌∙◌}
use Prim.Native.Nat.{◌*◌}
use lib.ListN.{length}
use Rattle.std.proofs.Common.{rules}
use Rattle.std.specs.Prelude.{Err}
use Rattle.algebra.specs.Cholesky.{cholesky}
use Rattle.sizes.specs.Size.{count, part}
use Rattle.matrix.proofs.Results.{was_refused}
use Rattle.c_copies.proofs.Filters.{step_given, length_given, with-passed}
use Rattle.c_sqrt_kalman.proofs.Starts.{found, reset_done, reset_refused}
use Rattle.c_sqrt_kalman.proofs.sqrt_kalman_reset.Goals as goal

pub returns-in_err-s : goal.returns-in_err-s
returns-in_err-s c =
    let a = c.args in
    let f = a.filter.now in
    let N = c.in_ok-at.at.n in
    let s = step_given (λ m. 1) _ _ _ _ _ _ c.in_ok-at.ensures in
    let l : length a.p0.now ≡ a.n * a.n = length_given c.in_ok-fits.ensures ∙ s.at.square in
    let e : c.from_residual-in_err-s.result ≡ Err c.in_err-s.field-0.0 = search rules in
    (λ t. (e t, f))
    ∙ reset_refused a.n a.x0.now a.p0.now l N s.at.states c.matrix_at-p.ensures a.m a.i f (with-passed (λ m. 1) _ _ _ _ _ _ s.passed l)
    (was_refused (cholesky (count N) (part N N c.matrix_at-p.result)) c.factor_of.ensures c.in_err-s.was)

pub returns : goal.returns
returns c =
    let a = c.args in
    let f = a.filter.now in
    let N = c.in_ok-at.at.n in
    let s = step_given (λ m. 1) _ _ _ _ _ _ c.in_ok-at.ensures in
    let l = length_given c.in_ok-fits.ensures ∙ s.at.square in
    let z = found (cholesky (count N) (part N N c.matrix_at-p.result)) c.factor_of.ensures c.in_ok-s.was in
    reset_done a.n a.x0.now a.p0.now l N s.at.states c.matrix_at-p.ensures a.m a.i f (with-passed (λ m. 1) _ _ _ _ _ _ s.passed l)
    z.1 s.same s.at.x (omega (arith, s.at)) c.vector_at-x.ensures z.2 c.put_pair.ensures
