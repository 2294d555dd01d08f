-- The filter record of the code: what it holds, and what each method makes of it. Definitions only.
use Rattle.std.specs.Prelude.{ℕ, List, [], ◌∷◌, Float}
use Rattle.answer.specs.declared.Step.{Step}
use Rattle.answer.specs.Answer.{Answer, where_sized}
use Rattle.answer.specs.Outcome.{Outcome, into, if_fitting, handed}
use Rattle.algebra.specs.Matrix.{Vector, Matrix}
use Rattle.algebra.specs.Array.{cut, used_flat, pad_row}
use Rattle.matrix.specs.Result.{as_matrix, as_vector, as_one}
use Rattle.filtering.specs.Filter.{Motion, Sensor, Estimate, estimate}
use Rattle.filtering.specs.Linear.{predict, update, tracker_motion, tracker_sensor, at_start}
use Rattle.steps.specs.Step.{well_sized, fitting}
use Rattle.steps.specs.Flat.{flat, motion_flat, sensor_flat, estimate_from}
use Rattle.kalman.specs.declared.KalmanFilter.{KalmanFilter}

-- ---- an estimate in the numbers x and p
abbrev pub estimate_flat : ℕ → List Float → List Float → Estimate
estimate_flat n x p = estimate (cut n x) (used_flat n n p)

abbrev pub flats_of : Estimate → List Float × List Float
flats_of e = (pad_row e.state, flat e.covariance)

-- ---- the steps on a record's numbers, by the sizes
abbrev pub predict_flat : ℕ → ℕ → KalmanFilter → List Float → Outcome Estimate (Unit {0})
predict_flat n i f u = predict (motion_flat n i f.a f.b f.q) (cut i u) (estimate_flat n f.x f.p)

abbrev pub update_flat : ℕ → ℕ → KalmanFilter → Vector → Outcome Estimate Vector
update_flat n m f z = update (sensor_flat n m f.h f.r) z (estimate_flat n f.x f.p)

-- ---- a record of a model and an estimate
abbrev pub record_of : Motion → Sensor Matrix → Estimate → KalmanFilter
record_of M Y e = record {
  n = M.n;
  m = Y.m;
  i = M.i;
  a = flat M.a;
  b = flat M.b;
  h = flat Y.h;
  q = flat M.q;
  r = flat Y.r;
  x = pad_row e.state;
  p = flat e.covariance;
}

-- the record with the numbers w for its state and its covariance; its model stays as it stands
abbrev pub keeping : KalmanFilter → List Float × List Float → KalmanFilter
keeping f w = record {
  n = f.n;
  m = f.m;
  i = f.i;
  a = f.a;
  b = f.b;
  h = f.h;
  q = f.q;
  r = f.r;
  x = w.0;
  p = w.1;
}

abbrev pub holding : KalmanFilter → Estimate → KalmanFilter
holding f e = keeping f (flats_of e)

-- ---- the outcome of each step: 1 where a size does not fit, else that of the filter
abbrev pub predicting : KalmanFilter → List Float → ℕ → Outcome Estimate (Unit {0})
predicting f u k = if_fitting (fitting f.n f.m f.i f.i k) (predict_flat f.n f.i f u)

abbrev pub updating : KalmanFilter → Vector → ℕ → Outcome Estimate Vector
updating f z k = if_fitting (fitting f.n f.m f.i f.m k) (update_flat f.n f.m f z)

-- the k numbers of x, and the k × k part of p
abbrev pub resetting : KalmanFilter → List Float → List (List Float) → ℕ → Outcome Estimate (Unit {0})
resetting f x p k = into (where_sized (fitting f.n f.m f.i f.n k) (estimate_from f.n x p))

-- ---- what each method hands back: its answer, and the filter that it leaves
abbrev pub stepped : {R T : Type 0} → (Answer R → Answer T) → KalmanFilter → Outcome Estimate R → Step T KalmanFilter
stepped tell f o = let w = handed tell (holding f) f o in record { answer = w.0; left = w.1 }

abbrev pub predict_of : KalmanFilter → List Float → ℕ → Step (Unit {0}) KalmanFilter
predict_of f u k = stepped (λ a. a) f (predicting f u k)

abbrev pub update_of : KalmanFilter → List Float → ℕ → Step (List Float) KalmanFilter
update_of f z k = stepped as_vector f (updating f (cut f.m z) k)

-- one reading: the innovation is a number
abbrev pub update_one_of : KalmanFilter → Float → Step Float KalmanFilter
update_one_of f z = stepped as_one f (updating f (z ∷ []) 1)

abbrev pub reset_of : KalmanFilter → List Float → List (List Float) → ℕ → Step (Unit {0}) KalmanFilter
reset_of f x p k = stepped (λ a. a) f (resetting f x p k)

abbrev pub new_of : Motion → Sensor Matrix → Estimate → Answer KalmanFilter
new_of M Y e = where_sized (well_sized M.n Y.m M.i) (record_of M Y e)

abbrev pub state_of : KalmanFilter → Answer (List Float)
state_of f = as_vector (where_sized (well_sized f.n f.m f.i) (cut f.n f.x))

abbrev pub covariance_of : KalmanFilter → Answer (List (List Float))
covariance_of f = as_matrix (where_sized (well_sized f.n f.m f.i) (used_flat f.n f.n f.p))

-- the tracker at its start
abbrev pub position_velocity_of : Float → Float → Float → KalmanFilter
position_velocity_of t q r = record_of (tracker_motion t q) (tracker_sensor r) at_start
