-- The worked cases of tracking: the readings of document 01's sheet, the same with a third, and refusals. Definitions only.
-- With this EPSILON no sheet is known to be refused with 3: the refusals here have a step and noises of 0, which no sheet has.
use Rattle.std.specs.Prelude.{◌≡◌, false, List, [], ◌∷◌, map, pos, negsuc, Float, None, Some}
use Rattle.std.specs.Float.{fin, binary64}
use Rattle.std.specs.Float.Ieee.{to_bits}
use Rattle.algebra.specs.Matrix.{one_by_one}
use Rattle.algebra.specs.Values.{n0, n1, n2}
use Rattle.filtering.specs.Filter.{estimate}
use Rattle.filtering.specs.Cases.{n32, n300, n400, n4288}
use Rattle.smoothing.specs.Smoother.{Slot, Duty}
use Rattle.tracking.specs.Track.{Settings, Smoothed, rejected, tracked, latest, positions, smoothed_by, track}

abbrev settings : Float → Float → Float → Settings
settings t q r = record { step = t; process = q; measurement = r }

abbrev at : Float → Float → Smoothed
at x y = record { filtered = x; smoothed = y }

abbrev n800 : Float
n800 = fin false 25 (pos 5)

-- 607.03125, the position 300 and the speed 307.03125 after one second
abbrev x607 : Float
x607 = fin false 19425 (negsuc 4)

-- the positions where a third reading is 800: 290.17 .., 556.24 .. and 804.30 ..
abbrev x290 : Float
x290 = fin false 5104741977437039 (negsuc 43)

abbrev x556 : Float
x556 = fin false 4892754999848847 (negsuc 42)

abbrev x804 : Float
x804 = fin false 7074708556217055 (negsuc 42)

-- a slot of one state whose predicted covariance is p; inversion rejects 0
abbrev slot : Float → Slot
slot p = record { filtered = estimate (n0 ∷ []) (one_by_one n1); predicted = estimate (n0 ∷ []) (one_by_one p) }

abbrev duty : List Slot → Duty
duty l = record { size = 1; transition = one_by_one n1; slots = l }

pub record Cases : Type 0 where
  pub bits : map (to_bits binary64) (n800 ∷ x607 ∷ x290 ∷ x556 ∷ x804 ∷ [])
      ≡ 0x4089_0000_0000_0000 ∷ 0x4082_f840_0000_0000 ∷ 0x4072_22bc_5c3c_336f ∷ 0x4081_61ef_4bbd_2f8f ∷ 0x4089_2268_f261_fadf ∷ []
  -- the sheet: step 1, noises 4288 and 32, the reading 400 and then none. The rounded-down positions are 300 and 607
  pub sheet : track (settings n1 n4288 n32) (Some n400 ∷ None ∷ []) ≡ tracked (at n300 n300 ∷ at x607 x607 ∷ [])
  -- a third reading moves the positions before it
  pub third : track (settings n1 n4288 n32) (Some n400 ∷ None ∷ Some n800 ∷ []) ≡ tracked (at n300 x290 ∷ at x607 x556 ∷ at x804 x804 ∷ [])
  pub one_reading : track (settings n1 n4288 n32) (Some n400 ∷ []) ≡ tracked (at n300 n300 ∷ [])
  pub no_reading : track (settings n1 n4288 n32) [] ≡ tracked []
  -- the filter: after a reading without noise nothing is uncertain, and the next reading is refused
  pub filter-rejected : track (settings n0 n0 n0) (Some n1 ∷ None ∷ Some n2 ∷ None ∷ []) ≡ rejected 2
  -- the smoother: every slot is rejected, and the latest before the last is told
  pub smoother-rejected : track (settings n0 n0 n0) (Some n1 ∷ None ∷ None ∷ []) ≡ rejected 1
  -- slots 1 and 2 of five are rejected, and so is the last, which does not count
  pub latest-rejected : latest 1 (slot n1 ∷ slot n0 ∷ slot n0 ∷ slot n1 ∷ slot n0 ∷ []) ≡ Some 2
  pub none-rejected : latest 1 (slot n1 ∷ slot n0 ∷ []) ≡ None
  pub slots-rejected : smoothed_by positions (duty (slot n0 ∷ slot n0 ∷ slot n1 ∷ slot n1 ∷ [])) ≡ rejected 1
