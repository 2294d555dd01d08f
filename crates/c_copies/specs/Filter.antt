-- A filter in one slice: its parts one after another, by rows; and what each call of the linear filter tells and leaves. Definitions only.
use Rattle.std.specs.Prelude.{ℕ, ◌+◌, ◌*◌, List, [], ◌∷◌, ◌++◌, Bool, ◌&&◌, eqb, length, take, drop, Float, Ok, Err}
use Rattle.answer.specs.Answer.{Answer, where_sized, mapped}
use Rattle.answer.specs.Outcome.{Outcome, if_fitting, standing, handed}
use Rattle.algebra.specs.Matrix.{Vector, Matrix}
use Rattle.filtering.specs.Filter.{Motion, Sensor, Estimate, estimate}
use Rattle.filtering.specs.Linear.{predict, update}
use Rattle.sizes.specs.Size.{size_of}
use Rattle.layout.specs.Layout.{Parts, pair_parts, filter_parts, vector_at, joined, placed, total, offset, part_at}
use Rattle.steps.specs.Step.{well_sized}
use Rattle.road.specs.Road.{Filter, tracker_of}
use Rattle.c_copies.specs.declared.Places.{Places}

-- ---- sizes, where the noise of m measurements has w m columns

-- the parts, as the linear filter has them (w m is m), and as a square-root filter has them (w m is 1)
abbrev pub filter_parts_by : (ℕ → ℕ) → ℕ → ℕ → ℕ → Parts
filter_parts_by w n m i = (n, n) ∷ (n, i) ∷ (m, n) ∷ (n, n) ∷ (m, w m) ∷ pair_parts n

-- where the state begins, and the part behind it
abbrev pub state_place_by : (ℕ → ℕ) → ℕ → ℕ → ℕ → ℕ
state_place_by w n m i = offset (filter_parts_by w n m i) 5

-- the sizes by their type, where each part begins but the first, how many numbers n rows of n take, and how many all parts
abbrev pub places_by : (ℕ → ℕ) → ℕ → ℕ → ℕ → Places
places_by w n m i =
    let L = filter_parts_by w n m i in
    record {
      n = size_of n;
      m = size_of m;
      i = size_of i;
      b = offset L 1;
      h = offset L 2;
      q = offset L 3;
      r = offset L 4;
      x = offset L 5;
      p = offset L 6;
      square = n * n;
      len = total L;
    }

-- a slice of k numbers is just a filter
unfoldable pub is_filter_by : (ℕ → ℕ) → ℕ → ℕ → ℕ → ℕ → Bool
is_filter_by w n m i k = well_sized n m i && eqb k (total (filter_parts_by w n m i))

-- and the j numbers beside it are as many as are asked for
unfoldable pub is_step_by : (ℕ → ℕ) → ℕ → ℕ → ℕ → ℕ → ℕ → ℕ → Bool
is_step_by w n m i k asked j = is_filter_by w n m i k && eqb j asked

-- and so are those of a second slice
unfoldable pub is_step_with_by : (ℕ → ℕ) → ℕ → ℕ → ℕ → ℕ → ℕ → ℕ → ℕ → ℕ → Bool
is_step_with_by w n m i k asked j more l = is_step_by w n m i k asked j && eqb l more

-- slices of these lengths are just the parts of a filter of k numbers
unfoldable pub is_parts_by : (ℕ → ℕ) → ℕ → ℕ → ℕ → ℕ → ℕ → ℕ → ℕ → ℕ → ℕ → ℕ → ℕ → Bool
is_parts_by w n m i k a b h q r x p =
    is_filter_by w n m i k && ((eqb a (n * n) && (eqb b (n * i) && eqb h (m * n))) && ((eqb q (n * n) && eqb r (m * w m)) && (eqb x n && eqb p (n * n))))

-- ---- copies, for every noise: refused for the sizes

-- the parts, one after another, for a slice of k numbers
abbrev pub new_by : (ℕ → ℕ) → ℕ → ℕ → ℕ → ℕ → List Float → List Float → List Float → List Float → List Float → List Float → List Float → Answer (List Float)
new_by w n m i k a b h q r x p =
    where_sized (is_parts_by w n m i k (length a) (length b) (length h) (length q) (length r) (length x) (length p)) (joined (a ∷ b ∷ h ∷ q ∷ r ∷ x ∷ p ∷ []))

-- the state of f, and what stands behind it, n rows of n numbers, for a slice of k numbers
abbrev pub state_by : (ℕ → ℕ) → ℕ → ℕ → ℕ → List Float → ℕ → Answer (List Float)
state_by w n m i f k = where_sized (is_step_by w n m i (length f) n k) (take n (drop (state_place_by w n m i) f))

abbrev pub square_by : (ℕ → ℕ) → ℕ → ℕ → ℕ → List Float → ℕ → Answer (List Float)
square_by w n m i f k = where_sized (is_step_by w n m i (length f) (n * n) k) (take (n * n) (drop (state_place_by w n m i + n) f))

-- the model of the motion that f holds
abbrev pub motion_by : (ℕ → ℕ) → ℕ → ℕ → ℕ → List Float → Motion
motion_by w n m i f = let L = filter_parts_by w n m i in record { n = n; i = i; a = part_at L f 0; b = part_at L f 1; q = part_at L f 3 }

-- ---- the sizes of the linear filter, whose noise is a matrix

-- where the estimate begins
abbrev pub estimate_place : ℕ → ℕ → ℕ → ℕ
estimate_place n m i = state_place_by (λ m. m) n m i

abbrev pub places_of : ℕ → ℕ → ℕ → Places
places_of n m i = places_by (λ m. m) n m i

abbrev pub is_filter : ℕ → ℕ → ℕ → ℕ → Bool
is_filter n m i k = is_filter_by (λ m. m) n m i k

abbrev pub is_step : ℕ → ℕ → ℕ → ℕ → ℕ → ℕ → Bool
is_step n m i k asked j = is_step_by (λ m. m) n m i k asked j

abbrev pub is_step_with : ℕ → ℕ → ℕ → ℕ → ℕ → ℕ → ℕ → ℕ → Bool
is_step_with n m i k asked j more l = is_step_with_by (λ m. m) n m i k asked j more l

abbrev pub is_parts : ℕ → ℕ → ℕ → ℕ → ℕ → ℕ → ℕ → ℕ → ℕ → ℕ → ℕ → Bool
is_parts n m i k a b h q r x p = is_parts_by (λ m. m) n m i k a b h q r x p

-- the sizes of one road: a filter of k numbers, and j beside it
unfoldable pub is_road : ℕ → ℕ → ℕ → ℕ → ℕ → Bool
is_road n m i k j = (eqb n 2 && (eqb m 1 && eqb i 1)) && (eqb k 19 && eqb j 1)

-- ---- what the slice f holds
abbrev pub motion_at : ℕ → ℕ → ℕ → List Float → Motion
motion_at n m i f = motion_by (λ m. m) n m i f

abbrev pub sensor_at : ℕ → ℕ → ℕ → List Float → Sensor Matrix
sensor_at n m i f = let L = filter_parts n m i in record { n = n; m = m; h = part_at L f 2; r = part_at L f 4 }

abbrev pub estimate_at : ℕ → ℕ → ℕ → List Float → Estimate
estimate_at n m i f = estimate (vector_at n f (estimate_place n m i)) (part_at (filter_parts n m i) f 6)

-- the filter of one road
abbrev pub road_in : List Float → Filter
road_in f = record { motion = motion_at 2 1 1 f; sensor = sensor_at 2 1 1 f; start = estimate_at 2 1 1 f }

-- an estimate's numbers; and the slice with another estimate, whose model stays as it stands
abbrev pub estimate_numbers : Estimate → List Float
estimate_numbers e = e.state ++ joined e.covariance

abbrev pub with_estimate : ℕ → ℕ → ℕ → List Float → Estimate → List Float
with_estimate n m i f e = placed (estimate_place n m i) (estimate_numbers e) f

-- ---- the steps: refused where a size does not fit, else the filter's own outcome; an update's answer goes into a slice, and is not told
abbrev pub predicted_in : ℕ → ℕ → ℕ → List Float → Outcome Estimate (Unit {0}) → Answer (Unit {0}) × List Float
predicted_in n m i f o = handed (λ w. w) (with_estimate n m i f) f o

abbrev pub predict_in : ℕ → ℕ → ℕ → List Float → List Float → Answer (Unit {0}) × List Float
predict_in n m i f u = predicted_in n m i f (if_fitting (is_step n m i (length f) i (length u)) (predict (motion_at n m i f) u (estimate_at n m i f)))

-- what is told stands in a place that held y; a refusal leaves the place as it was
abbrev pub told_in : {A : Type 0} → A → Answer A → A
told_in y (Err k) = y
told_in y (Ok a) = a

-- the outcome of an update of f, with the innovation in a slice that held y
abbrev pub outcome_in : ℕ → ℕ → ℕ → List Float → List Float → Outcome Estimate Vector → Answer (Unit {0}) × (List Float × List Float)
outcome_in n m i f y o = (mapped (λ _. tt) o.told, (standing (with_estimate n m i f) f o.left, told_in y o.told))

abbrev pub update_in : ℕ → ℕ → ℕ → List Float → List Float → List Float → Answer (Unit {0}) × (List Float × List Float)
update_in n m i f z y =
    outcome_in n m i f y (if_fitting (is_step_with n m i (length f) m (length z) m (length y)) (update (sensor_at n m i f) z (estimate_at n m i f)))

-- ---- the copies of the linear filter
abbrev pub new_in : ℕ → ℕ → ℕ → ℕ → List Float → List Float → List Float → List Float → List Float → List Float → List Float → Answer (List Float)
new_in n m i k a b h q r x p = new_by (λ m. m) n m i k a b h q r x p

-- f with the state x and the covariance p
abbrev pub reset_in : ℕ → ℕ → ℕ → List Float → List Float → List Float → Answer (List Float)
reset_in n m i f x p = where_sized (is_step_with n m i (length f) n (length x) (n * n) (length p)) (placed (estimate_place n m i) (x ++ p) f)

-- the state of f, and its covariance by rows, for a slice of k numbers
abbrev pub state_in : ℕ → ℕ → ℕ → List Float → ℕ → Answer (List Float)
state_in n m i f k = state_by (λ m. m) n m i f k

abbrev pub covariance_in : ℕ → ℕ → ℕ → List Float → ℕ → Answer (List Float)
covariance_in n m i f k = square_by (λ m. m) n m i f k

-- the slice of a model and an estimate
abbrev pub filter_numbers : Filter → List Float
filter_numbers F =
    let M = F.motion in
    let Y = F.sensor in
    let e = F.start in
    joined (joined M.a ∷ joined M.b ∷ joined Y.h ∷ joined M.q ∷ joined Y.r ∷ e.state ∷ joined e.covariance ∷ [])

-- that of the tracker at its start
abbrev pub tracker_in : Float → Float → Float → ℕ → Answer (List Float)
tracker_in t q r k = where_sized (eqb k 19) (filter_numbers (tracker_of t q r))
