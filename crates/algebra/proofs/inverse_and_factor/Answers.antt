-- `inverse_and_factor` keeps its promise: the laws of both.
use Rattle.algebra.proofs.Inverses.{inv-refused, inv_ext}
use Rattle.algebra.proofs.Factors.{refused-cholesky, cholesky_ext}
use Rattle.algebra.proofs.inverse_and_factor.Goals as goal

pub returns : goal.returns
returns c = record { inverse-refused = inv-refused; factor-refused = refused-cholesky; inverse-reads = inv_ext; factor-reads = cholesky_ext }
