-- The information filter's record of the code: what it holds, and what each method makes of it. Definitions only.
use Rattle.std.specs.Prelude.{ℕ, List, [], ◌∷◌, Bool, ◌&&◌, eqb, Float}
use Rattle.answer.specs.declared.Step.{Step}
use Rattle.answer.specs.Answer.{Answer, where_sized, if_sized, mapped}
use Rattle.answer.specs.Outcome.{Outcome, done, into, if_fitting, handed}
use Rattle.algebra.specs.Matrix.{Vector, Matrix}
use Rattle.algebra.specs.Array.{cut, used, used_flat, pad_row}
use Rattle.matrix.specs.Result.{as_matrix, as_vector, as_one}
use Rattle.filtering.specs.Filter.{Motion, Estimate}
use Rattle.filtering.specs.Filter as Filter
use Rattle.filtering.specs.Information.{Information, of_estimate, covariance, state, predict, informed, update}
use Rattle.steps.specs.Step.{well_sized, fitting}
use Rattle.steps.specs.Flat.{flat, motion_flat, sensor_flat, estimate_from}
use Rattle.information_filter.specs.declared.InformationFilter.{InformationFilter}
use Rattle.information_filter.specs.declared.Sensor.{Sensor}

-- ---- Ω and Ω x in the numbers of a record, and in arrays of rows
abbrev pub information_flat : ℕ → List Float → List Float → Information
information_flat n w v = record { matrix = used_flat n n w; vector = cut n v }

abbrev pub information_from : ℕ → List (List Float) → List Float → Information
information_from n w v = record { matrix = used n n w; vector = cut n v }

abbrev pub flats_of : Information → List Float × List Float
flats_of o = (flat o.matrix, pad_row o.vector)

-- ---- a record of a model and of what its filter keeps
abbrev pub record_of : Motion → Filter.Sensor Matrix → Information → InformationFilter
record_of M Y o = record {
  n = M.n;
  m = Y.m;
  i = M.i;
  a = flat M.a;
  b = flat M.b;
  h = flat Y.h;
  q = flat M.q;
  r = flat Y.r;
  omega = flat o.matrix;
  xi = pad_row o.vector;
}

-- the record with the numbers w for Ω and Ω x; its model stays as it stands
abbrev pub keeping : InformationFilter → List Float × List Float → InformationFilter
keeping f w = record {
  n = f.n;
  m = f.m;
  i = f.i;
  a = f.a;
  b = f.b;
  h = f.h;
  q = f.q;
  r = f.r;
  omega = w.0;
  xi = w.1;
}

abbrev pub holding : InformationFilter → Information → InformationFilter
holding f o = keeping f (flats_of o)

abbrev pub held : InformationFilter → Information
held f = information_flat f.n f.omega f.xi

-- ---- the steps on a record's numbers, by the sizes
abbrev pub predict_flat : ℕ → ℕ → InformationFilter → List Float → Outcome Information (Unit {0})
predict_flat n i f u = predict (motion_flat n i f.a f.b f.q) (cut i u) (information_flat n f.omega f.xi)

abbrev pub update_flat : ℕ → ℕ → InformationFilter → Vector → Outcome Information Vector
update_flat n m f z = update (sensor_flat n m f.h f.r) z (information_flat n f.omega f.xi)

-- ---- the outcome of each step: refused where a size does not fit, else that of the filter
abbrev pub predicting : InformationFilter → List Float → ℕ → Outcome Information (Unit {0})
predicting f u k = if_fitting (fitting f.n f.m f.i f.i k) (predict_flat f.n f.i f u)

abbrev pub updating : InformationFilter → Vector → ℕ → Outcome Information Vector
updating f z k = if_fitting (fitting f.n f.m f.i f.m k) (update_flat f.n f.m f z)

-- a sensor of k states and j measurements: its numbers h, its inverted noise w, and what it measured, z
unfoldable pub fusible : ℕ → ℕ → ℕ → ℕ → ℕ → Bool
fusible n m i k j = fitting n m i n k && eqb m j

abbrev pub informed_flat : ℕ → ℕ → List Float → List Float → List Float → Information → Information
informed_flat n m h w z o = informed n m (used_flat m n h) (used_flat m m w) (cut m z) o

abbrev pub fused_flat : ℕ → ℕ → List Float → List Float → List Float → Information → Outcome Information (Unit {0})
fused_flat n m h w z o = done tt (informed_flat n m h w z o)

abbrev pub fusing : InformationFilter → Sensor → Outcome Information (Unit {0})
fusing f s =
    if_fitting (fusible f.n f.m f.i s.n s.m) (fused_flat f.n f.m s.h s.r_inv s.z (held f))

-- the k numbers of x, and the k × k part of p
abbrev pub resetting : InformationFilter → List Float → List (List Float) → ℕ → Outcome Information (Unit {0})
resetting f x p k = if_fitting (fitting f.n f.m f.i f.n k) (into (of_estimate f.n (estimate_from f.n x p)))

-- ---- what each method hands back: its answer, and the filter that it leaves
abbrev pub stepped : InformationFilter → Outcome Information (Unit {0}) → Step (Unit {0}) InformationFilter
stepped f o = let w = handed (λ t. t) (holding f) f o in record { answer = w.0; left = w.1 }

abbrev pub update_of : InformationFilter → List Float → ℕ → Step (List Float) InformationFilter
update_of f z k = let w = handed as_vector (holding f) f (updating f (cut f.m z) k) in record { answer = w.0; left = w.1 }

-- one reading: the innovation is a number
abbrev pub update_one_of : InformationFilter → Float → Step Float InformationFilter
update_one_of f z = let w = handed as_one (holding f) f (updating f (z ∷ []) 1) in record { answer = w.0; left = w.1 }

abbrev pub new_of : Motion → Filter.Sensor Matrix → Estimate → Answer InformationFilter
new_of M Y e = if_sized (well_sized M.n Y.m M.i) (mapped (record_of M Y) (of_estimate M.n e))

abbrev pub from_information_of : Motion → Filter.Sensor Matrix → Information → Answer InformationFilter
from_information_of M Y o = where_sized (well_sized M.n Y.m M.i) (record_of M Y o)

-- ---- what is read from a record
abbrev pub state_of : InformationFilter → Answer (List Float)
state_of f = as_vector (if_sized (well_sized f.n f.m f.i) (state f.n (held f)))

abbrev pub covariance_of : InformationFilter → Answer (List (List Float))
covariance_of f = as_matrix (if_sized (well_sized f.n f.m f.i) (covariance f.n (held f)))

abbrev pub matrix_of : InformationFilter → Answer (List (List Float))
matrix_of f = as_matrix (where_sized (well_sized f.n f.m f.i) (held f).matrix)

abbrev pub vector_of : InformationFilter → Answer (List Float)
vector_of f = as_vector (where_sized (well_sized f.n f.m f.i) (held f).vector)
