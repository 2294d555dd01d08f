-- Lines of numbers as bytes. Assumes nothing.
use mathlib.Core.Path.{◌≡◌, refl, ap}
use mathlib.Core.List.{List, [], ◌∷◌, ◌++◌, append_assoc, append-nil}
use Prim.Native.Nat.{ℕ, suc, ◌+◌, ◌<◌}
use native.Mathlib.Numerals.{add-one}
use lib.IntN.{ℤ, pos}
use lib.ListN.{length, take, get_or}
use lib.Seq.{take-suc, length-take-le}
use native.Mathlib.Omega.{arith}
use Rattle.std.specs.Prelude.{Ok, Err}
use Rattle.sheets.specs.Field.{write_field}
use Rattle.answer.specs.Told.{number}
use Rattle.sheets.specs.declared.SheetRefusal.{SheetRefusal}
use Rattle.sheets.specs.Verdict.{then}
use Rattle.sheets.specs.Sheet.{read_sheet}
use Rattle.sheets.specs.Output.{line_text, refusal_text, reading_text, readings_text, printed}
use Rattle.sheets.specs.Report.{answer_of, report}
use Rattle.sheets.proofs.Printing.{lines_snoc}

-- the fields of numbers, one after another
abbrev pub fields : List ℤ → List ℕ
fields [] = []
fields (z ∷ zs) = write_field z ++ fields zs

pub line_fields : (zs : List ℤ) → line_text zs ≡ fields zs ++ 10 ∷ []
unfolding line_text
line_fields [] = refl
line_fields (z ∷ zs) = rw (line_fields zs, append_assoc)

pub fields_snoc : (zs : List ℤ) (z : ℤ) → fields (zs ++ z ∷ []) ≡ fields zs ++ write_field z
fields_snoc [] z = rw append-nil
fields_snoc (y ∷ zs) z = rw (fields_snoc zs z, append_assoc)

-- one more field
pub fields_more : (zs : List ℤ) (i : ℕ) → i < length zs → fields (take (suc i) zs) ≡ fields (take i zs) ++ write_field (get_or zs i (pos 0))
fields_more zs i h = rw (take-suc zs i (pos 0) h, fields_snoc)

-- one more line
pub lines_more : (es : List ℕ) (ms : List ℤ) (i : ℕ) → i < length ms
    → readings_text 1 es (take (i + 1) ms) ≡ readings_text 1 es (take i ms) ++ reading_text (i + 1) es (get_or ms i (pos 0))
lines_more es ms i h =
    let u : length (take i ms) ≡ i = length-take-le i ms (omega arith) in
    let v : 1 + i ≡ i + 1 = omega arith in
    let w : take (i + 1) ms ≡ take i ms ++ get_or ms i (pos 0) ∷ [] = rw add-one (take-suc ms i (pos 0) h) in
    rw (w, lines_snoc 1 es (take i ms) (get_or ms i (pos 0)), u, v)

-- ---- the text of what a sheet is worked to

module _ (s : List ℕ) where
  pub text_of_lines : (t : List ℕ) → Ok t ≡ then (read_sheet s) answer_of → t ≡ report s
  unfolding report
  text_of_lines t e = ap printed e

  pub text_of_refusal : (w : SheetRefusal) → Err w ≡ then (read_sheet s) answer_of → line_text (pos (number w.refusal) ∷ pos w.line ∷ []) ≡ report s
  unfolding report refusal_text
  text_of_refusal w e = ap printed e
