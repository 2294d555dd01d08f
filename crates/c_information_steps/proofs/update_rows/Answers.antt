-- `update_rows` meets its contract: what is read is the filter's own; by what the inversion of the noise answers, and by what is told.
use mathlib.Core.Path.{◌≡◌}
use lib.ListN.{length}
use Rattle.std.proofs.Common.{rules}
use Rattle.std.specs.Prelude.{Err}
use Rattle.c_copies.proofs.Filters.{step_given, length_given, with-passed}
use Rattle.c_information_steps.proofs.Updates.{fitted-update, updates, refuses, not_updated}
use Rattle.c_information_steps.proofs.update_rows.Goals as goal

pub returns-in_err-w : goal.returns-in_err-w
returns-in_err-w c =
    let a = c.args in
    let f = a.filter.now in
    let s = step_given (λ m. m) a.n a.m a.i (length f) a.m (length a.z.now) c.in_ok-at.ensures in
    let e : c.from_residual-in_err-w.result ≡ Err c.in_err-w.field-0.0 = search rules in
    fitted-update a.n a.m a.i f a.z.now a.innovation.now (with-passed (λ m. m) a.n a.m a.i (length f) a.m (length a.z.now) s.passed (length_given c.in_ok-fits.ensures))
    (not_updated f s.at a.z.now a.innovation.now c.matrix_at-r.ensures c.inverse_of.ensures c.in_err-w.was e)

pub returns-in_err-y : goal.returns-in_err-y
returns-in_err-y c =
    let a = c.args in
    let f = a.filter.now in
    let s = step_given (λ m. m) a.n a.m a.i (length f) a.m (length a.z.now) c.in_ok-at.ensures in
    let e : c.from_residual-in_err-y.result ≡ Err c.in_err-y.field-0.0 = search rules in
    fitted-update a.n a.m a.i f a.z.now a.innovation.now (with-passed (λ m. m) a.n a.m a.i (length f) a.m (length a.z.now) s.passed (length_given c.in_ok-fits.ensures))
    (refuses f s.at a.z.now a.innovation.now c.matrix_at-r.ensures c.inverse_of.ensures s.same c.in_ok-w.was c.matrix_at-h.ensures c.vector_at-v.ensures c.vector_at-xi.ensures c.matrix_at-omega.ensures
    c.update_by-answer.ensures c.put_pair.ensures c.in_err-y.was e)

pub returns : goal.returns
returns c =
    let a = c.args in
    let f = a.filter.now in
    let s = step_given (λ m. m) a.n a.m a.i (length f) a.m (length a.z.now) c.in_ok-at.ensures in
    let l = length_given c.in_ok-fits.ensures in
    fitted-update a.n a.m a.i f a.z.now a.innovation.now (with-passed (λ m. m) a.n a.m a.i (length f) a.m (length a.z.now) s.passed l)
    (updates f s.at a.z.now a.innovation.now c.matrix_at-r.ensures c.inverse_of.ensures s.same c.in_ok-w.was c.matrix_at-h.ensures c.vector_at-v.ensures c.vector_at-xi.ensures c.matrix_at-omega.ensures
    c.update_by-answer.ensures c.put_pair.ensures l c.in_ok-y.was c.put_vector.ensures)
