-- `information_state` meets its contract: by what the state is told as.
use mathlib.Core.Path.{◌≡◌, refl, ap, ◌∙◌}
use lib.ListN.{length}
use Rattle.std.proofs.Common.{rules}
use Rattle.std.specs.Prelude.{Err}
use Rattle.answer.specs.Told.{written}
use Rattle.algebra.specs.Array.{pad_row}
use Rattle.matrix.specs.Result.{as_vector}
use Rattle.matrix.proofs.Results.{if_answered}
use Rattle.filtering.specs.Information.{state}
use Rattle.information_steps.proofs.Ways.{length-state}
use Rattle.c_copies.proofs.Filters.{step_given}
use Rattle.c_information.specs.Information.{information_at}
use Rattle.c_information.proofs.Calls.{information-read, vector-written, refused-as}
use Rattle.c_information.proofs.information_state.Goals as goal

pub returns-in_err-x : goal.returns-in_err-x
returns-in_err-x c =
    let a = c.args in
    let f = a.filter.now in
    let s = step_given (λ m. m) a.n a.m a.i (length f) a.n (length a.out.now) c.in_ok-at.ensures in
    let O = information-read f s.at c.vector_at-xi.ensures c.matrix_at-omega.ensures in
    let e : c.from_residual-in_err-x.result ≡ Err c.in_err-x.field-0.0 = search rules in
    if_answered (written a.out.now) _ s.passed
    (refused-as pad_row (written a.out.now) (state a.n (information_at a.n a.m a.i f)) a.out.now (c.in_err-x.ensures ∙ λ t. as_vector (state (s.at.states t) (O t))) e refl)

pub returns : goal.returns
returns c =
    let a = c.args in
    let f = a.filter.now in
    let s = step_given (λ m. m) a.n a.m a.i (length f) a.n (length a.out.now) c.in_ok-at.ensures in
    let O = information-read f s.at c.vector_at-xi.ensures c.matrix_at-omega.ensures in
    if_answered (written a.out.now) _ s.passed
    (ap (written a.out.now) (vector-written _ s.at.states (state a.n (information_at a.n a.m a.i f)) a.out.now (c.in_ok-x.ensures ∙ λ t. as_vector (state (s.at.states t) (O t)))
    (λ y q. length-state a.n (information_at a.n a.m a.i f) q) s.same c.put_vector.ensures))
