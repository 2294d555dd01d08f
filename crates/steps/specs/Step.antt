-- A step on arrays of four rows of four: what they hold, and how its outcome is handed over in them. Definitions only.
use Rattle.std.specs.Prelude.{ℕ, List, Bool, ◌&&◌, eqb, Float}
use Rattle.answer.specs.Answer.{Answer}
use Rattle.answer.specs.Outcome.{Outcome, standing, handed}
use Rattle.algebra.specs.Matrix.{Vector, Matrix}
use Rattle.algebra.specs.Array.{pad_row, pad}
use Rattle.sizes.specs.declared.Size.{Size}
use Rattle.sizes.specs.Size.{sized, count, front, part}
use Rattle.matrix.specs.Result.{as_vector}
use Rattle.filtering.specs.Filter.{Motion, Sensor, Estimate, estimate}
use Rattle.filtering.specs.Linear.{predict, update}

abbrev pub Rows : Type 0
Rows = List (List Float)

-- ---- the sizes of a filter, n states, m measurements and i inputs

-- all are 1 to 4
unfoldable pub well_sized : ℕ → ℕ → ℕ → Bool
well_sized n m i = sized n && (sized m && sized i)

-- and the k numbers that come with a call are as many as are asked for
unfoldable pub fitting : ℕ → ℕ → ℕ → ℕ → ℕ → Bool
fitting n m i asked k = well_sized n m i && eqb asked k

-- ---- what the arrays hold, for n states, i inputs and m measurements
abbrev pub motion_rows : Size → Size → Rows → Rows → Rows → Motion
motion_rows n i a b q = record { n = count n; i = count i; a = part n n a; b = part n i b; q = part n n q }

abbrev pub sensor_rows : Size → Size → Rows → Rows → Sensor Matrix
sensor_rows n m h r = record { n = count n; m = count m; h = part m n h; r = part m m r }

abbrev pub estimate_rows : Size → List Float → Rows → Estimate
estimate_rows n x p = estimate (front n x) (part n n p)

-- ---- an outcome in the arrays x and p, where it leaves an estimate

abbrev pub arrays_of : Estimate → List Float × Rows
arrays_of e = (pad_row e.state, pad e.covariance)

abbrev pub left_rows : {R : Type 0} → List Float → Rows → Outcome Estimate R → List Float × Rows
left_rows x p o = standing arrays_of (x, p) o.left

-- what x and p hold after a predict of the linear filter, and what an update tells beside it
abbrev pub predict_rows : Size → Size → Rows → Rows → Rows → List Float → List Float → Rows → List Float × Rows
predict_rows n i a b q u x p = left_rows x p (predict (motion_rows n i a b q) (front i u) (estimate_rows n x p))

abbrev pub updated_rows : List Float → Rows → Outcome Estimate Vector → Answer (List Float) × (List Float × Rows)
updated_rows x p o = handed as_vector arrays_of (x, p) o

abbrev pub update_rows : Size → Size → Rows → Rows → List Float → List Float → Rows → Answer (List Float) × (List Float × Rows)
update_rows n m h r z x p = updated_rows x p (update (sensor_rows n m h r) (front m z) (estimate_rows n x p))
