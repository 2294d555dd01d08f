-- `of_estimate` meets its contract: by what the inversion answers.
use Rattle.algebra.specs.Matrix.{sum_from, matvec}
use Rattle.answer.proofs.Exits.{exit}
use Rattle.information_road.proofs.Ways.{made, not_made}
use Rattle.information_road.proofs.of_estimate.Goals as goal

pub returns-in_err-w : goal.returns-in_err-w
returns-in_err-w c = not_made c.args.e c.inverse.ensures c.in_err-w.was (exit c.from_residual.ensures.1)

pub returns : goal.returns
unfolding sum_from matvec
returns c = made c.args.e c.inverse.ensures c.in_ok-w.was
