-- The whole output of the whole input: the sheet is read, filtered and smoothed; then a line is printed for each reading, or the refusal's. Definitions only.
use Rattle.std.specs.Prelude.{List, map, ℕ, ◌+◌, ℤ, pos, Float, length, Option, None, Some, Ok}
use Rattle.std.specs.Float.{binary64}
use Rattle.std.specs.Float.Ieee.{of_int}
use Rattle.tracking.specs.Track.{Settings, Smoothed, Tracked, rejected, tracked, track}
use Rattle.answer.specs.declared.Refusal.TheVariants.{SingularMatrix}
use Rattle.sheets.specs.Verdict.{Verdict, refused, then, mapped}
use Rattle.sheets.specs.Sheet.{Sheet, readings_line, read_sheet}
use Rattle.sheets.specs.Output.{readings_text, all_metres, printed}

-- ---- the filter and the smoother, on the sheet's numbers

abbrev pub float_of : ℤ → Float
float_of z = of_int binary64 z

abbrev pub settings_of : Sheet → Settings
settings_of sh = record { step = float_of (pos sh.step); process = float_of (pos sh.process); measurement = float_of (pos sh.measurement) }

abbrev pub measured_of : Option ℤ → Option Float
measured_of None = None
measured_of (Some z) = Some (float_of z)

unfoldable pub track_of : Sheet → Tracked (List Smoothed)
track_of sh = track (settings_of sh) (map measured_of sh.readings)

-- the line of the sheet on which its first reading stands
abbrev pub first_line : Sheet → ℕ
first_line sh = readings_line (length sh.ends)

-- the smoothed positions, or 3 at the line of the reading that is rejected
abbrev pub on_lines : ℕ → Tracked (List Smoothed) → Verdict (List Float)
on_lines first (rejected k) = refused SingularMatrix (first + k)
on_lines first (tracked l) = Ok (map (λ (p : Smoothed). p.smoothed) l)

-- ---- the report

-- the lines of a sheet with its positions; every position is looked at before anything is printed
unfoldable pub lines_of : Sheet → List Float → Verdict (List ℕ)
lines_of sh xs = mapped (readings_text 1 sh.ends) (all_metres (first_line sh) xs)

unfoldable pub answer_of : Sheet → Verdict (List ℕ)
answer_of sh = then (on_lines (first_line sh) (track_of sh)) (lines_of sh)

unfoldable pub report : List ℕ → List ℕ
report s = printed (then (read_sheet s) answer_of)
