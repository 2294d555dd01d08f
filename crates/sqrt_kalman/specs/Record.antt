-- The filter record of the code: what it holds, and what each method makes of it. Definitions only.
use Rattle.std.specs.Prelude.{ℕ, List, [], ◌∷◌, Float}
use Rattle.answer.specs.declared.Step.{Step}
use Rattle.answer.specs.Answer.{Answer, where_sized, if_sized, mapped}
use Rattle.answer.specs.Outcome.{Outcome, into, if_fitting, handed}
use Rattle.algebra.specs.Matrix.{Vector}
use Rattle.algebra.specs.Array.{cut, used, used_flat, pad_row}
use Rattle.matrix.specs.Result.{as_matrix, as_vector}
use Rattle.filtering.specs.Filter.{Motion, Sensor, Estimate}
use Rattle.filtering.specs.SquareRoot.{Factored, factored, of_estimate, covariance, predict, update}
use Rattle.steps.specs.Step.{well_sized, fitting}
use Rattle.matrix.specs.Result.{as_one}
use Rattle.steps.specs.Flat.{flat, motion_flat, estimate_from}
use Rattle.sqrt_kalman.specs.declared.SqrtKalman.{SqrtKalman}

-- ---- what the numbers of a record hold: its matrices stand flat, as the linear filter's do
abbrev pub channel_flat : ℕ → ℕ → List Float → List Float → Sensor Vector
channel_flat n m h r = record { n = n; m = m; h = used_flat m n h; r = cut m r }

abbrev pub factored_flat : ℕ → List Float → List Float → Factored
factored_flat n x s = factored (cut n x) (used_flat n n s)

-- a state and a factor in the numbers x and s
abbrev pub flats_of : Factored → List Float × List Float
flats_of f = (pad_row f.state, flat f.factor)

-- ---- a record of a model, a state and a factor, and what is given for one in arrays of rows
abbrev pub record_of : Motion → Sensor Vector → Factored → SqrtKalman
record_of M Y f = record {
  n = M.n;
  m = Y.m;
  i = M.i;
  a = flat M.a;
  b = flat M.b;
  h = flat Y.h;
  q = flat M.q;
  r_diag = pad_row Y.r;
  x = pad_row f.state;
  s_chol = flat f.factor;
}

abbrev pub channel_from : ℕ → ℕ → List (List Float) → List Float → Sensor Vector
channel_from n m h r = record { n = n; m = m; h = used m n h; r = cut m r }

abbrev pub factored_from : ℕ → List Float → List (List Float) → Factored
factored_from n x s = factored (cut n x) (used n n s)

-- the record with the numbers w for its state and its factor; its model stays as it stands
abbrev pub keeping : SqrtKalman → List Float × List Float → SqrtKalman
keeping f w = record {
  n = f.n;
  m = f.m;
  i = f.i;
  a = f.a;
  b = f.b;
  h = f.h;
  q = f.q;
  r_diag = f.r_diag;
  x = w.0;
  s_chol = w.1;
}

abbrev pub holding : SqrtKalman → Factored → SqrtKalman
holding f g = keeping f (flats_of g)

-- ---- the outcome of each step: 1 where a size does not fit, else that of the filter
abbrev pub held : SqrtKalman → Factored
held f = factored_flat f.n f.x f.s_chol

abbrev pub predicting : SqrtKalman → List Float → ℕ → Outcome Factored (Unit {0})
predicting f u k = if_fitting (fitting f.n f.m f.i f.i k) (predict (motion_flat f.n f.i f.a f.b f.q) (cut f.i u) (held f))

abbrev pub updating : SqrtKalman → Vector → ℕ → Outcome Factored Vector
updating f z k = if_fitting (fitting f.n f.m f.i f.m k) (update (channel_flat f.n f.m f.h f.r_diag) z (held f))

-- the k numbers of x, and the factor of the k × k part of p; where there is none, nothing changes
abbrev pub resetting : SqrtKalman → List Float → List (List Float) → ℕ → Outcome Factored (Unit {0})
resetting f x p k = into (if_sized (fitting f.n f.m f.i f.n k) (of_estimate f.n (estimate_from f.n x p)))

-- ---- what each method hands back: its answer, and the filter that it leaves
abbrev pub stepped : SqrtKalman → Outcome Factored (Unit {0}) → Step (Unit {0}) SqrtKalman
stepped f o = let w = handed (λ t. t) (holding f) f o in record { answer = w.0; left = w.1 }

abbrev pub predict_of : SqrtKalman → List Float → ℕ → Step (Unit {0}) SqrtKalman
predict_of f u k = stepped f (predicting f u k)

abbrev pub reset_of : SqrtKalman → List Float → List (List Float) → ℕ → Step (Unit {0}) SqrtKalman
reset_of f x p k = stepped f (resetting f x p k)

abbrev pub update_of : SqrtKalman → List Float → ℕ → Step (List Float) SqrtKalman
update_of f z k = let w = handed as_vector (holding f) f (updating f (cut f.m z) k) in record { answer = w.0; left = w.1 }

-- one reading: the innovation is a number
abbrev pub update_one_of : SqrtKalman → Float → Step Float SqrtKalman
update_one_of f z = let w = handed as_one (holding f) f (updating f (z ∷ []) 1) in record { answer = w.0; left = w.1 }

abbrev pub from_cholesky_of : Motion → Sensor Vector → Factored → Answer SqrtKalman
from_cholesky_of M Y f = where_sized (well_sized M.n Y.m M.i) (record_of M Y f)

abbrev pub new_of : Motion → Sensor Vector → Estimate → Answer SqrtKalman
new_of M Y e = if_sized (well_sized M.n Y.m M.i) (mapped (record_of M Y) (of_estimate M.n e))

abbrev pub state_of : SqrtKalman → Answer (List Float)
state_of f = as_vector (where_sized (well_sized f.n f.m f.i) (cut f.n f.x))

abbrev pub covariance_of : SqrtKalman → Answer (List (List Float))
covariance_of f = as_matrix (where_sized (well_sized f.n f.m f.i) (covariance f.n (held f)))

abbrev pub cholesky_factor_of : SqrtKalman → Answer (List (List Float))
cholesky_factor_of f = as_matrix (where_sized (well_sized f.n f.m f.i) (used_flat f.n f.n f.s_chol))
