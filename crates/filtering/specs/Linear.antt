-- The linear Kalman filter, in the order of rounding of kalman.rs. It keeps an estimate. Definitions only.
use Rattle.std.specs.Prelude.{[], ◌∷◌, Float}
use Rattle.std.specs.Float.{binary64}
use Rattle.std.specs.Float.Ieee.{of_bits}
use Rattle.scalar.specs.Number.{◌⊗◌, +0, one, half}
use Rattle.answer.specs.Outcome.{Outcome, unchanged, done, ◌else_leave◌then◌}
use Rattle.algebra.specs.Matrix.{Vector, Matrix, scale, identity}
use Rattle.algebra.specs.Inverse.{inv}
use Rattle.filtering.specs.Filter.{Motion, Sensor, Estimate, estimate, predicted_state, predicted_covariance, propagated, innovation, gain, corrected_state, corrected_covariance}

-- with the input u
unfoldable pub predict : Motion → Vector → Estimate → Outcome Estimate (Unit {0})
predict M u e = done tt (estimate (predicted_state M u e.state) (predicted_covariance M e.covariance))

-- what the inverted innovation covariance W leads to, with the measurement z: it tells z less H × the state before
unfoldable pub correction : Sensor Matrix → Vector → Estimate → Matrix → Outcome Estimate Vector
correction Y z e W =
    let y = innovation Y.m Y.n Y.h e.state z in
    let K = gain Y.n Y.m e.covariance Y.h W in
    done y (estimate (corrected_state Y.n Y.m K y e.state) (corrected_covariance Y.n Y.m K Y.h e.covariance))

-- refused with 3 where inversion rejects the innovation covariance H P Hᵀ + R
unfoldable pub update : Sensor Matrix → Vector → Estimate → Outcome Estimate Vector
update Y z e = inv Y.m (propagated Y.m Y.n Y.h e.covariance Y.r) else_leave unchanged then correction Y z e

-- ---- position and speed, with step t and noises q and r; the position is measured

-- 1/4 and 1000
abbrev pub quarter : Float
quarter = of_bits binary64 0x3fd0_0000_0000_0000

abbrev pub thousand : Float
thousand = of_bits binary64 0x408f_4000_0000_0000

unfoldable pub tracker_motion : Float → Float → Motion
tracker_motion t q =
    let t2 = t ⊗ t in
    let t3 = t2 ⊗ t in
    let t4 = t3 ⊗ t in
    record {
      n = 2;
      i = 1;
      a = (one ∷ t ∷ []) ∷ (+0 ∷ one ∷ []) ∷ [];
      b = (t ⊗ t ⊗ half ∷ []) ∷ (t ∷ []) ∷ [];
      q = (q ⊗ t4 ⊗ quarter ∷ q ⊗ t3 ⊗ half ∷ []) ∷ (q ⊗ t3 ⊗ half ∷ q ⊗ t2 ∷ []) ∷ [];
    }

unfoldable pub tracker_sensor : Float → Sensor Matrix
tracker_sensor r = record { n = 2; m = 1; h = (one ∷ +0 ∷ []) ∷ []; r = (r ⊗ r ∷ []) ∷ [] }

-- at 0, with a large uncertainty
unfoldable pub at_start : Estimate
at_start = estimate (+0 ∷ +0 ∷ []) (scale 2 2 (identity 2) thousand)
