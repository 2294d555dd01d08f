-- To unfold this is to unfold every definition that a case of smoothing computes with. Assumes nothing.
use Prim.Native.Nat.{ℕ}
use Rattle.algebra.proofs.Computing as Algebra
use Rattle.filtering.specs.Filter as Filter
use Rattle.smoothing.specs.Backward as Backward
use Rattle.smoothing.specs.Smoother as Smoother

unfoldable pub computing : ℕ
unfolding Algebra.computing Filter.gain Filter.corrected_state
    Backward.back Backward.pass Smoother.slot_gain Smoother.smoothed_state Smoother.smoothed_covariance Smoother.smoothed_pair Smoother.smooth_slots Smoother.smooth
computing = 0
