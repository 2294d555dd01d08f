-- The worked cases of the depot sheet: document 01's, whole, and each reading of a point that it leaves open. Statements only.
use Rattle.std.specs.Prelude.{◌≡◌, true, false, List, [], ◌∷◌, ◌++◌, ℕ, pos, negsuc, Float, take, None, Some}
use Prim.Native.String.{String}
use Rattle.std.specs.Float.{fin, inf, nan}
use Rattle.sheets.specs.Text.{bytes, text}
use Rattle.sheets.specs.Field.{read_field, write_field}
use Rattle.sheets.specs.Metres.{metres_of}
use Rattle.sheets.specs.Stage.{stage_of}
use Rattle.sheets.specs.Report.{report}

-- ---- one field

pub record Fields : Type 0 where
  pub plain : read_field (bytes "     400") ≡ Some (pos 400)
  pub below-zero : read_field (bytes "    -400") ≡ Some (negsuc 399)
  pub zero : read_field (bytes "       0") ≡ Some (pos 0)
  pub widest : read_field (bytes "99999999") ≡ Some (pos 99999999)
  pub minus-zero : read_field (bytes "      -0") ≡ None
  pub two-zeros : read_field (bytes "      00") ≡ None
  pub leading_zero : read_field (bytes "      05") ≡ None
  pub plus : read_field (bytes "      +5") ≡ None
  pub lone_minus : read_field (bytes "       -") ≡ None
  pub minus-apart : read_field (bytes "     - 5") ≡ None
  pub minus_and_zero : read_field (bytes "     -05") ≡ None
  pub blank : read_field (bytes "        ") ≡ None
  pub space_after : read_field (bytes "      5 ") ≡ None
  pub tab : read_field (9 ∷ bytes "      5") ≡ None
  pub carriage_return : read_field (bytes "      5" ++ (13 ∷ [])) ≡ None
  pub nul : read_field (0 ∷ bytes "      5") ≡ None
  pub written : write_field (negsuc 399) ≡ bytes "    -400"
  pub furthest : write_field (negsuc 9999998) ≡ bytes "-9999999"

-- ---- whole metres and stages

-- 0.5, and 9,999,999.5
abbrev half : Float
half = fin false 1 (negsuc 0)

abbrev far : Float
far = fin false 19999999 (negsuc 0)

pub record Places : Type 0 where
  pub down : metres_of half ≡ Some (pos 0)
  pub down-below-zero : metres_of (fin true 1 (negsuc 0)) ≡ Some (negsuc 0)
  pub minus-zero : metres_of (fin true 0 (pos 0)) ≡ Some (pos 0)
  pub last : metres_of far ≡ Some (pos 9999999)
  pub last-below-zero : metres_of (fin true 9999999 (pos 0)) ≡ Some (negsuc 9999998)
  pub past : metres_of (fin false 78125 (pos 7)) ≡ None
  pub past-below-zero : metres_of (fin true 19999999 (negsuc 0)) ≡ None
  pub no_number : metres_of nan ≡ None
  pub infinite : metres_of (inf false) ≡ None
  -- an end at the metres is not below them; past the last end the stage is the last
  pub at_end : stage_of (300 ∷ 1000 ∷ []) (pos 300) ≡ 1
  pub past_end : stage_of (300 ∷ 1000 ∷ []) (pos 301) ≡ 2
  pub past-last : stage_of (300 ∷ 1000 ∷ []) (pos 1001) ≡ 2
  pub before-start : stage_of (300 ∷ 1000 ∷ []) (negsuc 0) ≡ 1

-- ---- whole sheets

-- line 1 with 2 stages and 2 readings, and the lines of document 01 after it
abbrev head : String
head = "       1    4288      32       2       2"

abbrev worked : List ℕ
worked = text (head ∷ "     300" ∷ "    1000" ∷ "       1     400" ∷ "       0       0" ∷ [])

-- a refusal's line
abbrev Refused : String → List String → Type 0
Refused line sheet = report (text sheet) ≡ text (line ∷ [])

pub record Sheets : Type 0 where
  pub whole : report worked ≡ text ("       1     300       1" ∷ "       2     607       2" ∷ [])
  -- line 1
  pub empty : Refused "       7       1" []
  pub field-form : Refused "       7       1" ("      01    4288      32       2       2" ∷ [])
  pub four-fields : Refused "       7       1" ("       1    4288      32       2" ∷ [])
  pub minus-step : Refused "       8       1" ("      -5    4288      32       2       2" ∷ [])
  pub widest-step : Refused "       8       1" ("99999999    4288      32       2       2" ∷ [])
  pub form-first : Refused "       7       1" ("99999999    4288      32       2      0x" ∷ [])
  pub no_stage : Refused "       8       1" ("       1    4288      32       0       2" ∷ [])
  -- the stages
  pub no_end : Refused "       7       2" (head ∷ [])
  pub one_end : Refused "       7       3" (head ∷ "     300" ∷ [])
  pub equal-end : Refused "       8       3" (head ∷ "     300" ∷ "     300" ∷ "       1       x" ∷ [])
  pub zero-end : Refused "       8       2" (head ∷ "       0" ∷ "      xx" ∷ [])
  -- the readings
  pub kind : Refused "       8       4" (head ∷ "     300" ∷ "    1000" ∷ "       2     400" ∷ "       0       0" ∷ [])
  pub kind_0_metres : Refused "       8       5" (head ∷ "     300" ∷ "    1000" ∷ "       1     400" ∷ "       0       1" ∷ [])
  pub too_far : Refused "       8       4" (head ∷ "     300" ∷ "    1000" ∷ "       110000000" ∷ "       x       0" ∷ [])
  pub missing : Refused "       7       5" (head ∷ "     300" ∷ "    1000" ∷ "       1     400" ∷ [])
  -- the last line without its end; a line more, empty or not
  pub cut : report (take 92 worked) ≡ text ("       7       5" ∷ [])
  pub more : Refused "       7       6" (head ∷ "     300" ∷ "    1000" ∷ "       1     400" ∷ "       0       0" ∷ "" ∷ [])
  -- the first reading is within limits, the second 99 seconds on is not: one line, and none for the first
  pub nine : Refused "       9       4" ("      99    9999       1       1       2" ∷ "     300" ∷ "       1 9999999" ∷ "       0       0" ∷ [])
  pub byte_more : report (worked ++ (32 ∷ [])) ≡ text ("       7       6" ∷ [])

pub record Cases : Type 0 where
  pub fields : Fields
  pub places : Places
  pub sheets : Sheets
