-- Promises about texts: what is written reads back, and a number and a sheet have one text each. Definitions and statements only.
use Rattle.std.specs.Prelude.{◌≡◌, Bool, true, List, [], ◌∷◌, ◌++◌, ℕ, ℤ, length, Some, Ok}
use Rattle.sheets.specs.Field.{read_field, write_field, holds}
use Rattle.sheets.specs.Output.{line_text}
use Rattle.sheets.specs.Sheet.{Rows, head_test, end_test, reading_test, stages_of, readings_of, read_rows}

-- every number of a line fits its field
pub data Fitting : List ℤ → Type 0 where
  no_more : Fitting []
  one_more : {z : ℤ} {zs : List ℤ} → holds z ≡ true → Fitting zs → Fitting (z ∷ zs)

-- rows of k fields that fit and pass the test one after another
pub data Admitted (k : ℕ) (ok : List ℤ → List ℤ → Bool) : List ℤ → List (List ℤ) → Type 0 where
  done : {before : List ℤ} → Admitted k ok before []
  row : {before zs : List ℤ} {rows : List (List ℤ)} → length zs ≡ k → Fitting zs → ok before zs ≡ true → Admitted k ok zs rows → Admitted k ok before (zs ∷ rows)

-- rows that a sheet can hold
pub record Sheetable (r : Rows) : Type 0 where
  pub head-row : Admitted 5 head_test [] (r.head ∷ [])
  pub end-rows : Admitted 1 end_test [] r.ends
  pub reading_rows : Admitted 2 reading_test [] r.readings
  pub stages : length r.ends ≡ stages_of r.head
  pub count : length r.readings ≡ readings_of r.head

unfoldable pub lines_text : List (List ℤ) → List ℕ
lines_text [] = []
lines_text (zs ∷ rows) = line_text zs ++ lines_text rows

-- the sheet written for rows
unfoldable pub sheet_text : Rows → List ℕ
sheet_text r = lines_text (r.head ∷ []) ++ (lines_text r.ends ++ lines_text r.readings)

pub record Texts : Type 0 where
  pub field_back : (z : ℤ) → holds z ≡ true → read_field (write_field z) ≡ Some z
  pub field-one : (f : List ℕ) (z : ℤ) → length f ≡ 8 → read_field f ≡ Some z → (f ≡ write_field z) × (holds z ≡ true)
  pub sheet-back : (r : Rows) → Sheetable r → read_rows (sheet_text r) ≡ Ok r
  pub sheet-one : (s : List ℕ) (r : Rows) → read_rows s ≡ Ok r → s ≡ sheet_text r
