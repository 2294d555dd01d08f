-- One road: two states, position and speed, one input and one measurement, by their numbers. Definitions only.
use Rattle.std.specs.Prelude.{[], ◌∷◌, Float, Ok, Err}
use Rattle.answer.specs.Answer.{Answer}
use Rattle.answer.specs.Outcome.{Outcome, handed}
use Rattle.algebra.specs.Matrix.{Vector, Matrix}
use Rattle.matrix.specs.Result.{as_one}
use Rattle.filtering.specs.Filter.{Motion, Sensor, Estimate, estimate, gain, corrected_state, corrected_covariance}
use Rattle.road.specs.declared.Two.{Two}
use Rattle.filtering.specs.Linear.{tracker_motion, tracker_sensor, at_start}
use Rattle.road.specs.declared.Pair.{Pair}
use Rattle.road.specs.declared.Motion.{Motion as RoadMotion}
use Rattle.road.specs.declared.Sensor.{Sensor as RoadSensor}
use Rattle.road.specs.declared.Innovation.{Innovation}
use Rattle.road.specs.declared.Road.{Road}

abbrev pub matrix_of : Two → Matrix
matrix_of t = (t.a ∷ t.b ∷ []) ∷ (t.c ∷ t.d ∷ []) ∷ []

abbrev pub estimate_of : Pair → Estimate
estimate_of e = estimate (e.x0 ∷ e.x1 ∷ []) (matrix_of e.p)

-- ---- a model by its numbers
abbrev pub motion_of : RoadMotion → Motion
motion_of f = record { n = 2; i = 1; a = matrix_of f.a; b = (f.b0 ∷ []) ∷ (f.b1 ∷ []) ∷ []; q = matrix_of f.q }

abbrev pub sensor_of : RoadSensor → Sensor Matrix
sensor_of f = record { n = 2; m = 1; h = (f.h0 ∷ f.h1 ∷ []) ∷ []; r = (f.r ∷ []) ∷ [] }

-- a model and an estimate
pub record Filter : Type 0 where
  pub motion : Motion
  pub sensor : Sensor Matrix
  pub start : Estimate

abbrev pub road_of : Road → Filter
road_of f = record { motion = motion_of f.motion; sensor = sensor_of f.sensor; start = estimate_of f.pair }

abbrev pub tracker_of : Float → Float → Float → Filter
tracker_of t q r = record { motion = tracker_motion t q; sensor = tracker_sensor r; start = at_start }

-- the estimate that an innovation and its inverted variance lead to
abbrev pub corrected_of : Sensor Matrix → Estimate → Innovation → Estimate
corrected_of Y e i =
    let K = gain 2 1 e.covariance Y.h ((i.inverse ∷ []) ∷ []) in
    estimate (corrected_state 2 1 K (i.innovation ∷ []) e.state) (corrected_covariance 2 1 K Y.h e.covariance)

-- by what an update finds: a refusal leaves the estimate
abbrev pub corrected_by : Sensor Matrix → Estimate → Answer Innovation → Estimate
corrected_by Y e (Err k) = e
corrected_by Y e (Ok i) = corrected_of Y e i

-- what an update tells, the one innovation as a number, and leaves
abbrev pub updated_of : Estimate → Outcome Estimate Vector → Answer Float × Estimate
updated_of e o = handed as_one (λ s. s) e o
