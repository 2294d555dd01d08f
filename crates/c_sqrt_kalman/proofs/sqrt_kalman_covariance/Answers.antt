-- `sqrt_kalman_covariance` meets its contract: the factor times itself transposed.
use mathlib.Core.Path.{◌∙◌}
use lib.ListN.{length}
use Rattle.std.specs.Prelude.{Ok}
use Rattle.answer.specs.Told.{written}
use Rattle.matrix.proofs.Results.{as_answered}
use Rattle.layout.specs.Layout.{joined}
use Rattle.filtering.specs.SquareRoot.{covariance}
use Rattle.c_copies.proofs.Filters.{filter_given, length_given, square-passed}
use Rattle.c_sqrt_kalman.specs.Root.{factored_at}
use Rattle.c_sqrt_kalman.proofs.Starts.{covers}
use Rattle.c_sqrt_kalman.proofs.sqrt_kalman_covariance.Goals as goal

pub returns : goal.returns
returns c =
    let a = c.args in
    let f = a.filter.now in
    let s = filter_given (λ m. 1) a.n a.m a.i (length f) c.in_ok-at.ensures in
    let l = length_given c.in_ok-fits.ensures in
    let is = covers f s.at c.matrix_at-s.ensures c.covariance-p.ensures a.out.now (l ∙ s.at.square) c.put_matrix.ensures in
    as_answered (written a.out.now) (joined (covariance a.n (factored_at a.n a.m a.i f))) (square-passed (λ m. 1) a.n a.m a.i (length f) s.passed s.at.square l) (λ t. (Ok tt, is t))
