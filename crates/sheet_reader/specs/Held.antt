-- What the code holds of a sheet that it reads. Definitions only.
use Rattle.std.specs.Prelude.{Bool, cond, List, [], map, ℕ, ℤ, nat_abs, length, Option, Some, None}
use Rattle.answer.specs.Table.{pad_to}
use Rattle.sheets.specs.Line.{form, nth, values}
use Rattle.sheets.specs.Sheet.{Sheet, only, end_of, head_test, reading_of, stages_of, readings_of}
use Rattle.sheet_reader.specs.declared.SheetRead.{SheetRead}
use Rattle.sheet_reader.specs.declared.head.Head.{Head}

-- the numbers of the line of k fields that begins at byte `at`, where it has its form
abbrev pub line_at : ℕ → List ℕ → ℕ → Option (List ℤ)
line_at k s at = cond (form k s at) (Some (values k s at)) None

-- what line 1's numbers say; and where they are in range
abbrev pub row_held : List ℤ → Head
row_held h = record { step = nat_abs (nth h 0); process = nat_abs (nth h 1); measurement = nat_abs (nth h 2); stages = stages_of h; readings = readings_of h }

abbrev pub head_in : List ℤ → Option Head
head_in h = cond (head_test [] h) (Some (row_held h)) None

abbrev pub head_held : List (List ℤ) → Head
head_held rows = row_held (only rows)

-- what rows say, one after another, in an array of m places
abbrev pub rows_held : {T : Type 0} → ℕ → (List ℤ → T) → List (List ℤ) → List T
rows_held m says rows = pad_to m (says []) (map says rows)

abbrev pub ends_held : List (List ℤ) → List ℕ
ends_held = rows_held 32 end_of

abbrev pub readings_held : List (List ℤ) → List (Option ℤ)
readings_held = rows_held 64 reading_of

abbrev pub sheet_held : Sheet → SheetRead
sheet_held sh =
    record {
      step = sh.step;
      process = sh.process;
      measurement = sh.measurement;
      stages = length sh.ends;
      count = length sh.readings;
      ends = pad_to 32 0 sh.ends;
      readings = pad_to 64 None sh.readings;
    }

-- what a line's numbers say where they are in range, by what the line before said; and the test of them by the numbers before
abbrev pub said_by : {T : Type 0} → (List ℤ → T) → (T → List ℤ → Bool) → T → List ℤ → Option T
said_by says in_range before zs = cond (in_range before zs) (Some (says zs)) None

abbrev pub test_by : {T : Type 0} → (List ℤ → T) → (T → List ℤ → Bool) → List ℤ → List ℤ → Bool
test_by says in_range before zs = in_range (says before) zs
