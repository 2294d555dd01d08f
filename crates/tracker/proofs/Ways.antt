-- The ways out of `track`: a reading refused, or the slots smoothed. Assumes nothing.
use Prim.Native.Nat.{ℕ, min}
use native.Mathlib.Omega.{arith}
use mathlib.Core.Path.{◌≡◌, sym, ap, ◌∙◌}
use mathlib.Core.List.{List, map}
use lib.ListN.{length, take}
use lib.Ieee.{Float}
use Rattle.std.specs.Prelude.{Option, Result, Ok, Err, IsErrAnd}
use Rattle.std.proofs.lemmas.List.{take_min}
use Rattle.std.proofs.lemmas.Result.{err_from_is_err_and}
use Rattle.filtering.specs.Linear.{tracker_sensor, at_start}
use Rattle.road.specs.declared.Road.{Road}
use Rattle.road.specs.Road.{Filter, matrix_of, road_of, tracker_of}
use Rattle.smoothing.specs.Smoother.{Slot}
use Rattle.tracking.specs.Track.{Tracked, Smoothed, and_then, slots_from, measured, positions, smoothed_by, duty_of, motion, slots, track}
use Rattle.tracker.specs.declared.Settings.{Settings}
use Rattle.tracker.specs.declared.Positions.{Positions}
use Rattle.tracker.specs.declared.Rejected.{Rejected}
use Rattle.tracker.specs.Tracked.{settings_of, slots_in, tracked_of, told, smoothed_of, track_in}

-- as many of z as there are, up to 64
pub first_of : (z : List (Option Float)) {u : ℕ} → u ≡ min (length z) 64 → take u z ≡ take 64 z
first_of z {u} h = let e : u ≡ min 64 (length z) = omega arith in ap (λ (n : ℕ). take n z) e ∙ take_min 64 z

-- f is the filter of the settings s, u are the readings that are used, l are the slots, and r is what the filter told
module _ (s : Settings) (f : Road) (ef : road_of f ≡ tracker_of s.step s.process s.measurement) (z u : List (Option Float)) (eu : u ≡ take 64 z)
    (r : Result Unit Rejected) (l : List Slot) (er : tracked_of r l ≡ slots_in f u) where
  abbrev S : Tracked (List Slot)
  S = slots (settings_of s) (take 64 z)

  stored : tracked_of r l ≡ S
  unfolding slots
  stored =
      er
      ∙ ap (λ (F : Filter). slots_from F.motion F.sensor 0 F.start (map measured u)) ef
      ∙ ap (slots_from (motion (settings_of s)) (tracker_sensor s.measurement) 0 at_start) (ap (map measured) eu)

  abbrev onward : Tracked (List Slot) → Tracked (List Smoothed)
  onward o = and_then o λ d. smoothed_by positions (duty_of (motion (settings_of s)) d)

  pub track-rejected : {k : Rejected} (x : Result Positions Rejected) → IsErrAnd x (λ j. j ≡ k) → r ≡ Err k → x ≡ track_in s z
  unfolding track
  track-rejected x q e =
      let w = err_from_is_err_and x q in
      w.1 ∙ ap Err w.2 ∙ ap (λ (o : Tracked (List Slot)). told (onward o)) (ap (λ (p : Result Unit Rejected). tracked_of p l) (sym e) ∙ stored)

  pub track-smoothed : {t : Unit} {x : Result Positions Rejected} → r ≡ Ok t → x ≡ smoothed_of (matrix_of f.motion.a) l → x ≡ track_in s z
  unfolding track
  track-smoothed e ex =
      ex
      ∙ ap (λ (F : Filter). told (smoothed_by positions (duty_of F.motion l))) ef
      ∙ ap (λ (o : Tracked (List Slot)). told (onward o)) (ap (λ (p : Result Unit Rejected). tracked_of p l) (sym e) ∙ stored)
