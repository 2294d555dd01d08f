-- Sensors added to an information filter in one slice: what each call tells and leaves. Definitions only.
use Rattle.std.specs.Prelude.{ℕ, ◌+◌, ◌*◌, List, Bool, ◌&&◌, eqb, length, Float}
use Rattle.answer.specs.Answer.{Answer}
use Rattle.answer.specs.Table.{table}
use Rattle.answer.specs.Outcome.{Outcome, done, if_fitting}
use Rattle.filtering.specs.Information.{Information, informed, Reading, fuse}
use Rattle.layout.specs.Layout.{vector_at, matrix_at}
use Rattle.c_copies.specs.Filter.{is_step}
use Rattle.c_information.specs.Information.{information_at, stepped_in}
use Rattle.c_fusion.specs.declared.SensorPlaces.{SensorPlaces}

-- a sensor h of its inverted noise w, which measured z: slices of these lengths, beside a filter of k numbers
unfoldable pub is_sensor : ℕ → ℕ → ℕ → ℕ → ℕ → ℕ → ℕ → Bool
is_sensor n m i k h w z = is_step n m i k m z && (eqb h (m * n) && eqb w (m * m))

abbrev pub fused_at : ℕ → ℕ → List Float → List Float → List Float → Information → Outcome Information (Unit {0})
fused_at n m h w z o = done tt (informed n m (matrix_at m n h 0) (matrix_at m m w 0) z o)

abbrev pub fuse_in : ℕ → ℕ → ℕ → List Float → List Float → List Float → List Float → Answer (Unit {0}) × List Float
fuse_in n m i f h w z =
    stepped_in n m i f (if_fitting (is_sensor n m i (length f) (length h) (length w) (length z)) (fused_at n m h w z (information_at n m i f)))

-- ---- sensors one after another in a slice s, each h, its inverted noise and what it measured, by rows

-- how many numbers one takes, and where its second and its third part begin
abbrev pub reading_length : ℕ → ℕ → ℕ
reading_length n m = m * n + m * m + m

abbrev pub sensor_places : ℕ → ℕ → SensorPlaces
sensor_places n m = record { w = m * n; z = m * n + m * m; len = reading_length n m }

-- sensor j, and the first c
abbrev pub reading_at : ℕ → ℕ → List Float → ℕ → Reading
reading_at n m s j =
    let k = j * reading_length n m in
    record { h = matrix_at m n s k; w = matrix_at m m s (k + m * n); z = vector_at m s (k + m * n + m * m) }

abbrev pub readings_at : ℕ → ℕ → List Float → ℕ → List Reading
readings_at n m s c = table c (reading_at n m s)

abbrev pub fused_all_at : ℕ → ℕ → ℕ → List Float → Information → Outcome Information (Unit {0})
fused_all_at n m c s o = done tt (fuse n m (readings_at n m s c) o)

abbrev pub fuse_all_in : ℕ → ℕ → ℕ → List Float → ℕ → List Float → Answer (Unit {0}) × List Float
fuse_all_in n m i f c s =
    stepped_in n m i f (if_fitting (is_step n m i (length f) (c * reading_length n m) (length s)) (fused_all_at n m c s (information_at n m i f)))
