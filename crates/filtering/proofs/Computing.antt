-- To unfold this is to unfold every definition that a case of the filters computes with. Assumes nothing.
use Prim.Native.Nat.{ℕ}
use Rattle.algebra.proofs.Computing as Algebra
use Rattle.filtering.specs.Filter as Filter
use Rattle.filtering.specs.Linear as Linear
use Rattle.filtering.specs.Information as Information
use Rattle.filtering.specs.SquareRoot as SquareRoot

unfoldable pub computing : ℕ
unfolding Algebra.computing
    Filter.predicted_state Filter.propagated Filter.innovation Filter.gain Filter.corrected_state Filter.corrected_covariance
    Linear.predict Linear.correction Linear.update Linear.tracker_motion Linear.tracker_sensor Linear.at_start
    Information.of_estimate Information.covariance Information.state Information.predict Information.informed Information.update Information.fuse
    SquareRoot.of_estimate SquareRoot.covariance SquareRoot.predict SquareRoot.turned_diagonal SquareRoot.rotate SquareRoot.rotated SquareRoot.variance SquareRoot.vec_over SquareRoot.component SquareRoot.components SquareRoot.update
computing = 0
