-- `sqrt_kalman_new` meets its contract: by what Cholesky answers.
use mathlib.Core.Path.{◌≡◌, sym, ◌∙◌}
use lib.ListN.{length}
use lib.Seq.{length-take-le}
use Rattle.std.proofs.Common.{rules}
use Rattle.std.specs.Prelude.{Err}
use Rattle.algebra.specs.Cholesky.{cholesky}
use Rattle.sizes.specs.Size.{count, part}
use Rattle.matrix.proofs.Results.{was_refused}
use Rattle.c_copies.proofs.Filters.{parts_given}
use Rattle.c_sqrt_kalman.proofs.Starts.{found, square-few, new-done, new-refused}
use Rattle.c_sqrt_kalman.proofs.sqrt_kalman_new.Goals as goal

pub returns-in_err-s : goal.returns-in_err-s
returns-in_err-s c =
    let a = c.args in
    let f = a.filter.now in
    let N = c.in_ok-at.at.n in
    let s = parts_given (λ m. 1) _ _ _ _ _ _ _ _ _ _ _ c.in_ok-at.ensures in
    let e : c.from_residual-in_err-s.result ≡ Err c.in_err-s.field-0.0 = search rules in
    (λ t. (e t, f))
    ∙ new-refused a.n a.x0.now a.p0.now s.last N s.at.states c.matrix_at-p.ensures a.m a.i (length f) a.a.now a.b.now a.h.now a.q.now a.r_diag.now f s.passed
    (was_refused (cholesky (count N) (part N N c.matrix_at-p.result)) c.factor_of.ensures c.in_err-s.was)

pub slice_bounds-numbers-end : goal.slice_bounds-numbers-end
slice_bounds-numbers-end c = square-few (parts_given (λ m. 1) _ _ _ _ _ _ _ _ _ _ _ c.in_ok-at.ensures).at

pub slice_bounds-s0-end : goal.slice_bounds-s0-end
slice_bounds-s0-end c = sym (length-take-le c.in_ok-at.at.square _ (square-few (parts_given (λ m. 1) _ _ _ _ _ _ _ _ _ _ _ c.in_ok-at.ensures).at))

pub returns : goal.returns
returns c =
    let a = c.args in
    let f = a.filter.now in
    let N = c.in_ok-at.at.n in
    let s = parts_given (λ m. 1) _ _ _ _ _ _ _ _ _ _ _ c.in_ok-at.ensures in
    let z = found (cholesky (count N) (part N N c.matrix_at-p.result)) c.factor_of.ensures c.in_ok-s.was in
    new-done a.n a.x0.now a.p0.now s.last N s.at.states c.matrix_at-p.ensures a.m a.i (length f) a.a.now a.b.now a.h.now a.q.now a.r_diag.now f s.passed
    _ z.1 z.2 (length-take-le c.in_ok-at.at.square _ (square-few s.at) ∙ s.at.square)
    c.put_matrix.ensures c.sqrt_kalman_from_cholesky.ensures
