-- `information_covariance` meets its contract: by what the inversion answers.
use mathlib.Core.Path.{◌≡◌, refl, ap, ◌∙◌}
use lib.ListN.{length}
use Rattle.std.proofs.Common.{rules}
use Rattle.std.specs.Prelude.{Err}
use Rattle.answer.specs.Answer.{mapped}
use Rattle.answer.specs.Told.{written}
use Rattle.algebra.specs.Array.{pad}
use Rattle.algebra.specs.Inverse.{inv}
use Rattle.algebra.proofs.Inverses.{inv-shape}
use Rattle.matrix.specs.Result.{as_matrix}
use Rattle.matrix.proofs.Results.{if_answered}
use Rattle.filtering.specs.Information.{covariance}
use Rattle.layout.specs.Layout.{joined}
use Rattle.c_copies.proofs.Filters.{filter_given, length_given, square-passed}
use Rattle.c_copies.proofs.Steps.{square-read}
use Rattle.c_information.specs.Information.{information_at}
use Rattle.c_information.proofs.Calls.{matrix-written, refused-as}
use Rattle.c_information.proofs.information_covariance.Goals as goal

pub returns-in_err-p : goal.returns-in_err-p
unfolding covariance
returns-in_err-p c =
    let a = c.args in
    let f = a.filter.now in
    let s = filter_given (λ m. m) a.n a.m a.i (length f) c.in_ok-at.ensures in
    let O = square-read f s.at c.matrix_at-omega.ensures in
    let e : c.from_residual-in_err-p.result ≡ Err c.in_err-p.field-0.0 = search rules in
    if_answered (written a.out.now) _ (square-passed (λ m. m) a.n a.m a.i (length f) s.passed s.at.square (length_given c.in_ok-fits.ensures))
    (refused-as pad (λ b. written a.out.now (mapped joined b)) (inv a.n (information_at a.n a.m a.i f).matrix) a.out.now (c.in_err-p.ensures ∙ λ t. as_matrix (inv (s.at.states t) (O t))) e refl)

pub returns : goal.returns
unfolding covariance
returns c =
    let a = c.args in
    let f = a.filter.now in
    let s = filter_given (λ m. m) a.n a.m a.i (length f) c.in_ok-at.ensures in
    let l = length_given c.in_ok-fits.ensures in
    let O = square-read f s.at c.matrix_at-omega.ensures in
    if_answered (written a.out.now) _ (square-passed (λ m. m) a.n a.m a.i (length f) s.passed s.at.square l)
    (ap (written a.out.now) (matrix-written _ s.at.states (inv a.n (information_at a.n a.m a.i f).matrix) a.out.now (c.in_ok-p.ensures ∙ λ t. as_matrix (inv (s.at.states t) (O t)))
    (inv-shape _ _) (l ∙ s.at.square) c.put_matrix.ensures))
