-- A bus's readings filtered and smoothed: the middle of the depot sheet. Definitions only.
-- The rules are for any motion M and sensor Y, of any sizes; `track` is the tracker of position and speed.
use Rattle.std.specs.Prelude.{ℕ, suc, Bool, true, false, cond, replicate, Float, Option, None, Some, Ok, Err}
use mathlib.Core.List.{List, [], ◌∷◌, map, zip_with}
use Rattle.scalar.specs.Number.{+0}
use Rattle.answer.specs.Answer.{Answer, mapped}
use Rattle.answer.specs.Outcome.{final}
use Rattle.algebra.specs.Matrix.{Vector, Matrix, at}
use Rattle.algebra.specs.Inverse.{inv}
use Rattle.filtering.specs.Filter.{Motion, Sensor, Estimate}
use Rattle.filtering.specs.Linear.{predict, update, tracker_motion, tracker_sensor, at_start}
use Rattle.smoothing.specs.Smoother.{Slot, Duty, smooth}

-- ---- what is given, and what is told

-- seconds from reading to reading, and the noises of the process and of the measurement
pub record Settings : Type 0 where
  pub step : Float
  pub process : Float
  pub measurement : Float

-- refused with 3 at reading k, from 0; or a result
pub data Tracked (A : Type 0) : Type 0 where
  rejected : ℕ → Tracked A
  tracked : A → Tracked A

-- a reading's filtered and smoothed position
pub record Smoothed : Type 0 where
  pub filtered : Float
  pub smoothed : Float

-- go on with a result; a rejection stands
abbrev pub and_then : {A B : Type 0} → Tracked A → (A → Tracked B) → Tracked B
and_then (rejected k) f = rejected k
and_then (tracked a) f = f a

-- an answer at reading k: a refusal is a rejection there
abbrev pub at_reading : {A : Type 0} → ℕ → Answer A → Tracked A
at_reading k (Err j) = rejected k
at_reading k (Ok a) = tracked a

-- ---- a reading, with the motion M and the sensor Y

-- one predict, with input zero
unfoldable pub moved : Motion → Estimate → Estimate
moved M e = final e (predict M (replicate M.i +0) e).left

-- an update if there is a reading
unfoldable pub corrected : Sensor Matrix → Option Vector → Estimate → Answer Estimate
corrected Y None e = Ok e
corrected Y (Some z) e = let o = update Y z e in mapped (λ y. final e o.left) o.told

-- a reading is one predict, then an update if there is a reading
unfoldable pub filter : Motion → Sensor Matrix → Option Vector → Estimate → Answer Estimate
filter M Y z e = corrected Y z (moved M e)

-- what is stored then: the estimate, and a further predict of a copy
unfoldable pub slot_of : Motion → Estimate → Slot
slot_of M e = record { filtered = e; predicted = moved M e }

-- the slots of readings that begin with reading k, from the estimate e on
unfoldable pub slots_from : Motion → Sensor Matrix → ℕ → Estimate → List (Option Vector) → Tracked (List Slot)
slots_from M Y k e [] = tracked []
slots_from M Y k e (z ∷ l) = and_then (at_reading k (filter M Y z e)) λ f. and_then (slots_from M Y (suc k) f l) λ s. tracked (slot_of M f ∷ s)

-- ---- where smoothing is refused

-- inversion rejects the predicted covariance of slot s, of state size n
unfoldable pub rejects : ℕ → Slot → Bool
rejects n s = elim (inv n s.predicted.covariance) [ Err k ↦ true | Ok W ↦ false ]

-- the place found among later slots, counted from the slot before them; else that slot's own, if it is rejected
abbrev pub or_here : Bool → Option ℕ → Option ℕ
or_here here (Some k) = Some (suc k)
or_here here None = cond here (Some 0) None

-- the latest slot before the last that is rejected, from 0
unfoldable pub latest : ℕ → List Slot → Option ℕ
latest n [] = None
latest n (s ∷ []) = None
latest n (s ∷ t ∷ l) = or_here (rejects n s) (latest n (t ∷ l))

-- ---- all readings, filtered and then smoothed

-- rejected at slot k; where no slot is rejected and smoothing is refused, there is no slot, and nothing to smooth
abbrev pub refused_at : {R : Type 0} → Option ℕ → Tracked (List R)
refused_at (Some k) = rejected k
refused_at None = tracked []

-- the slots of the duty d, smoothed: f of each slot and its smoothed pair
unfoldable pub smoothed_by : {R : Type 0} → (Slot → Estimate → R) → Duty → Tracked (List R)
smoothed_by f d = elim (smooth d) [ Err k ↦ refused_at (latest d.size d.slots) | Ok r ↦ tracked (zip_with f d.slots r) ]

abbrev pub duty_of : Motion → List Slot → Duty
duty_of M l = record { size = M.n; transition = M.a; slots = l }

-- ---- the tracker of position and speed; a reading is in metres, or there is none

abbrev pub measured : Option Float → Option Vector
measured None = None
measured (Some z) = Some (z ∷ [])

abbrev pub position : Estimate → Float
position e = at e.state 0

abbrev pub positions : Slot → Estimate → Smoothed
positions s e = record { filtered = position s.filtered; smoothed = position e }

abbrev pub motion : Settings → Motion
motion s = tracker_motion s.step s.process

-- the filter starts as `position_velocity` does
unfoldable pub slots : Settings → List (Option Float) → Tracked (List Slot)
slots s l = slots_from (motion s) (tracker_sensor s.measurement) 0 at_start (map measured l)

-- rejected at the first reading whose update is refused; else, where smoothing is refused with 3, at the latest slot rejected. No readings: no results.
unfoldable pub track : Settings → List (Option Float) → Tracked (List Smoothed)
track s l = and_then (slots s l) λ stored. smoothed_by positions (duty_of (motion s) stored)
