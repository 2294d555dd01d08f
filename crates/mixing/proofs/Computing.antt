-- To unfold this is to unfold every definition that a case of mixing computes with. Assumes nothing.
use Prim.Native.Nat.{ℕ}
use Rattle.algebra.proofs.Computing as Algebra
use Rattle.mixing.specs.Mixing as Mixing

unfoldable pub computing : ℕ
unfolding Algebra.computing
    Mixing.uniform Mixing.weighted Mixing.predicted Mixing.weights Mixing.spread Mixing.mixed_covariance Mixing.mixed_estimate Mixing.mix_estimates Mixing.update_probabilities Mixing.fused_estimate
computing = 0
