-- The depot sheet as it is read: line 1, a line a stage, a line a reading, and nothing after. Definitions only.
use Rattle.std.specs.Prelude.{Bool, false, ◌&&◌, ◌||◌, cond, List, [], ◌∷◌, map, ℕ, ◌+◌, ◌*◌, ltb, eqb, ℤ, pos, negsuc, nat_abs, length, Option, None, Some, Ok}
use Rattle.sheets.specs.Metres.{within}
use Rattle.answer.specs.declared.Refusal.TheVariants.{BadForm}
use Rattle.sheets.specs.Verdict.{Verdict, refused, then, mapped}
use Rattle.sheets.specs.Line.{read_lines, in_range, nth}

-- ---- ranges: a test is handed the numbers of the line before, of the same kind, and of the line

-- line 1: step in seconds, process noise, measurement noise, stages, readings
abbrev pub head_in_range : ℤ → ℤ → ℤ → ℤ → ℤ → Bool
head_in_range step process measurement stages readings =
    in_range 1 99 step && (in_range 0 9999 process && (in_range 1 9999 measurement && (in_range 1 32 stages && in_range 1 64 readings)))

abbrev pub head_test : List ℤ → List ℤ → Bool
head_test before zs = head_in_range (nth zs 0) (nth zs 1) (nth zs 2) (nth zs 3) (nth zs 4)

-- a stage's end in metres, above the one before
abbrev pub end_in_range : ℕ → ℤ → Bool
end_in_range before z = in_range 1 9999999 z && ltb before (nat_abs z)

abbrev pub end_test : List ℤ → List ℤ → Bool
end_test before zs = end_in_range (nat_abs (nth before 0)) (nth zs 0)

abbrev pub is_zero : ℤ → Bool
is_zero (pos m) = eqb m 0
is_zero (negsuc n) = false

-- a reading: kind 1 with its metres, or kind 0, no reading, whose metres are 0
abbrev pub reading_in_range : ℤ → ℤ → Bool
reading_in_range kind metres = in_range 0 1 kind && (within metres && (in_range 1 1 kind || is_zero metres))

abbrev pub reading_test : List ℤ → List ℤ → Bool
reading_test before zs = reading_in_range (nth zs 0) (nth zs 1)

-- ---- the lines' numbers

pub record Rows : Type 0 where
  pub head : List ℤ
  pub ends : List (List ℤ)
  pub readings : List (List ℤ)

-- the one row of line 1
abbrev pub only : List (List ℤ) → List ℤ
only [] = []
only (r ∷ rs) = r

abbrev pub stages_of : List ℤ → ℕ
stages_of h = nat_abs (nth h 3)

abbrev pub readings_of : List ℤ → ℕ
readings_of h = nat_abs (nth h 4)

-- the byte and the line at which the readings begin, and the length of the whole
abbrev pub readings_at : ℕ → ℕ
readings_at stages = 41 + 9 * stages

abbrev pub readings_line : ℕ → ℕ
readings_line stages = 2 + stages

abbrev pub sheet_length : ℕ → ℕ → ℕ
sheet_length stages readings = readings_at stages + 17 * readings

abbrev pub read_head : List ℕ → Verdict (List (List ℤ))
read_head s = read_lines 5 head_test 1 [] 1 0 s

abbrev pub read_ends : ℕ → List ℕ → Verdict (List (List ℤ))
read_ends stages s = read_lines 1 end_test stages [] 2 41 s

abbrev pub read_readings : ℕ → ℕ → List ℕ → Verdict (List (List ℤ))
read_readings stages readings s = read_lines 2 reading_test readings [] (readings_line stages) (readings_at stages) s

-- a byte after the last line is 7 at the line after it
abbrev pub read_end : List ℤ → List (List ℤ) → List (List ℤ) → List ℕ → Verdict Rows
read_end h es rs s =
    cond (eqb (length s) (sheet_length (stages_of h) (readings_of h)))
    (Ok (record { head = h; ends = es; readings = rs }))
    (refused BadForm (readings_line (stages_of h) + readings_of h))

unfoldable pub read_rows : List ℕ → Verdict Rows
read_rows s =
    then (read_head s) λ hs.
    then (read_ends (stages_of (only hs)) s) λ es.
    then (read_readings (stages_of (only hs)) (readings_of (only hs)) s) λ rs.
    read_end (only hs) es rs s

-- ---- what they say

-- step in seconds, noises, the stages' ends in metres, and for each reading its metres, or none
pub record Sheet : Type 0 where
  pub step : ℕ
  pub process : ℕ
  pub measurement : ℕ
  pub ends : List ℕ
  pub readings : List (Option ℤ)

abbrev pub end_of : List ℤ → ℕ
end_of zs = nat_abs (nth zs 0)

abbrev pub is_taken : List ℤ → Bool
is_taken zs = in_range 1 1 (nth zs 0)

abbrev pub reading_of : List ℤ → Option ℤ
reading_of zs = cond (is_taken zs) (Some (nth zs 1)) None

abbrev pub sheet_of : Rows → Sheet
sheet_of r =
    record {
      step = nat_abs (nth r.head 0);
      process = nat_abs (nth r.head 1);
      measurement = nat_abs (nth r.head 2);
      ends = map end_of r.ends;
      readings = map reading_of r.readings;
    }

unfoldable pub read_sheet : List ℕ → Verdict Sheet
read_sheet s = mapped sheet_of (read_rows s)
