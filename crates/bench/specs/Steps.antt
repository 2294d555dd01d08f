-- A filter that predicts and updates again and again with the same numbers. Definitions only.
use Rattle.std.specs.Prelude.{ℕ, zero, suc, List, Float}
use Rattle.kalman.specs.declared.KalmanFilter.{KalmanFilter}
use Rattle.kalman.specs.Record.{predict_of, update_of}

-- k predictions with the input u of i numbers, each followed by an update with the measurement z of m
unfoldable pub steps_of : ℕ → KalmanFilter → List Float → ℕ → List Float → ℕ → KalmanFilter
steps_of zero f u i z m = f
steps_of (suc k) f u i z m = (update_of (predict_of (steps_of k f u i z m) u i).left z m).left
