-- The way of the readings as the code holds it: a road's filter, readings in a slice, slots as numbers, and positions in arrays of 64. Definitions only.
use Rattle.std.specs.Prelude.{ℕ, ◌*◌, List, map, take, Float, Option, Result, Ok, Err}
use Rattle.scalar.specs.Number.{+0}
use Rattle.answer.specs.Table.{table, pad_to}
use Rattle.algebra.specs.Matrix.{Matrix, at}
use Rattle.road.specs.declared.Road.{Road}
use Rattle.road.specs.Road.{motion_of, sensor_of, estimate_of}
use Rattle.smoothing.specs.Smoother.{Slot}
use Rattle.tracking.specs.Track as Track
use Rattle.tracking.specs.Track.{Tracked, rejected, tracked, Smoothed, slots_from, measured, positions, smoothed_by}
use Rattle.tracker.specs.declared.Settings.{Settings}
use Rattle.tracker.specs.declared.Positions.{Positions}
use Rattle.tracker.specs.declared.Rejected.{Rejected}

-- ---- what is given

abbrev pub settings_of : Settings → Track.Settings
settings_of s = record { step = s.step; process = s.process; measurement = s.measurement }

-- the slots of the readings z, by the filter f from its own estimate on
abbrev pub slots_in : Road → List (Option Float) → Tracked (List Slot)
slots_in f z = slots_from (motion_of f.motion) (sensor_of f.sensor) 0 (estimate_of f.pair) (map measured z)

-- ---- what is told

-- slots beside what the filter told: done, or a reading that is rejected
abbrev pub tracked_of : Result (Unit {0}) Rejected → List Slot → Tracked (List Slot)
tracked_of (Err e) l = rejected e.reading
tracked_of (Ok u) l = tracked l

-- numbers 0, w, 2 w and so on of b, then +0
abbrev pub gathered_from : List Float → ℕ → ℕ → List Float
gathered_from b w c = pad_to 64 +0 (table c (λ k. at b (k * w)))

-- positions in arrays, past the readings +0; or the reading that is rejected
abbrev pub told : Tracked (List Smoothed) → Result Positions Rejected
told (rejected k) = Err (record { reading = k })
told (tracked l) = Ok (record { filtered = pad_to 64 +0 (map (λ r. r.filtered) l); smoothed = pad_to 64 +0 (map (λ r. r.smoothed) l) })

-- the slots l smoothed with the transition F
abbrev pub smoothed_of : Matrix → List Slot → Result Positions Rejected
smoothed_of F l = told (smoothed_by positions (record { size = 2; transition = F; slots = l }))

-- the first 64 of the readings z
abbrev pub track_in : Settings → List (Option Float) → Result Positions Rejected
track_in s z = told (Track.track (settings_of s) (take 64 z))
