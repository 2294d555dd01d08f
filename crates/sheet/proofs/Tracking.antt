-- What the tracker tells of a sheet. Assumes nothing.
use mathlib.Core.Path.{◌≡◌, refl, ◌∙◌}
use mathlib.Core.List.{List, map}
use Prim.Native.Nat.{ℕ, ◌≤◌, ◌<◌}
use native.Mathlib.Omega.{arith}
use lib.Ieee.{Float}
use lib.ListN.{length, take, length-map, length-take}
use lib.Seq.{take_all, take_at}
use Rattle.std.specs.Prelude.{Option, Result, Ok, Err, IfErr}
use Rattle.answer.specs.Table.{pad_to}
use Rattle.scalar.specs.Number.{+0}
use Rattle.tracking.specs.Track.{Smoothed, Tracked, rejected, tracked, track}
use Rattle.tracking.proofs.Laws.{tracks}
use Rattle.tracker.specs.Tracked.{settings_of as tracker_settings, told, track_in}
use Rattle.tracker.specs.declared.Settings.{Settings}
use Rattle.tracker.specs.declared.Positions.{Positions}
use Rattle.tracker.specs.declared.Rejected.{Rejected}
use Rattle.sheets.specs.Sheet.{Sheet}
use Rattle.sheets.specs.Report.{measured_of, track_of}
use Rattle.sheet_reader.specs.Held.{sheet_held}
use Rattle.sheet.specs.Held.{settings_held}

-- a rejection is at one of the first 64 readings
pub placed : (s : Settings) (z : List (Option Float)) (r : Result Positions Rejected) → r ≡ track_in s z → IfErr r (λ e. e.reading < 64)
placed s z r e = rw e (go (track (tracker_settings s) (take 64 z)) refl)
  where
    go : (t : Tracked (List Smoothed)) → track (tracker_settings s) (take 64 z) ≡ t → IfErr (told t) (λ e. e.reading < 64)
    go (rejected k) h =
        let p = tracks.placed (tracker_settings s) (take 64 z) k h in
        omega (arith, length-take 64 z)
    go (tracked l) h = tt

pub tracked_sheet : (sh : Sheet) → length sh.readings ≤ 64 → track_in (settings_held (sheet_held sh)) (map measured_of sh.readings) ≡ told (track_of sh)
unfolding track_of
tracked_sheet sh h =
    let l : length (map measured_of sh.readings) ≤ 64 = let n = length-map sh.readings measured_of in omega arith in
    rw (take_all 64 (map measured_of sh.readings) l)

pub rejection : (t : Tracked (List Smoothed)) (r : Rejected) → Err r ≡ told t → t ≡ rejected r.reading
rejection (rejected j) r e = let h : r ≡ record { reading = j } = cc in rw h
rejection (tracked l) r e = cc

-- positions are those of the readings, from the front on
pub positions : (t : Tracked (List Smoothed)) (q : Positions) → Ok q ≡ told t
    → (l : List Smoothed) × (t ≡ tracked l) × ((n : ℕ) → length l ≡ n → take n q.smoothed ≡ map (λ (r : Smoothed). r.smoothed) l)
positions (rejected j) q e = cc
positions (tracked l) q e = (
  l,
  refl,
  λ n h.
      let w : record { filtered = pad_to 64 +0 (map (λ (r : Smoothed). r.filtered) l); smoothed = pad_to 64 +0 (map (λ (r : Smoothed). r.smoothed) l) } ≡ q = cc in
      rw (← w) (take_at (map (λ (r : Smoothed). r.smoothed) l) _ n (length-map l (λ (r : Smoothed). r.smoothed) ∙ h)),
)
