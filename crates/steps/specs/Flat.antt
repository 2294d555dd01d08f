-- A model and an estimate where a filter's record holds them, flat, and where a call is given them, in arrays of rows. Definitions only.
use Rattle.std.specs.Prelude.{ℕ, List, Float}
use Rattle.algebra.specs.Matrix.{Matrix}
use Rattle.algebra.specs.Array.{cut, used, used_flat, pad, flat_of_rows}
use Rattle.filtering.specs.Filter.{Motion, Sensor, Estimate, estimate}

-- a matrix in a record: its rows of four, +0 outside its sizes
abbrev pub flat : Matrix → List Float
flat A = flat_of_rows (pad A)

-- ---- what the numbers of a record hold
abbrev pub motion_flat : ℕ → ℕ → List Float → List Float → List Float → Motion
motion_flat n i a b q = record { n = n; i = i; a = used_flat n n a; b = used_flat n i b; q = used_flat n n q }

abbrev pub sensor_flat : ℕ → ℕ → List Float → List Float → Sensor Matrix
sensor_flat n m h r = record { n = n; m = m; h = used_flat m n h; r = used_flat m m r }

-- ---- what is given in arrays of rows
abbrev pub motion_from : ℕ → ℕ → List (List Float) → List (List Float) → List (List Float) → Motion
motion_from n i a b q = record { n = n; i = i; a = used n n a; b = used n i b; q = used n n q }

abbrev pub sensor_from : ℕ → ℕ → List (List Float) → List (List Float) → Sensor Matrix
sensor_from n m h r = record { n = n; m = m; h = used m n h; r = used m m r }

abbrev pub estimate_from : ℕ → List Float → List (List Float) → Estimate
estimate_from n x p = estimate (cut n x) (used n n p)
