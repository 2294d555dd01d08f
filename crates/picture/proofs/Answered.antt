-- A sheet whose report is not 17 bytes is read, and its readings are tracked. Assumes nothing.
use mathlib.Core.Path.{◌≡◌, refl, sym, ap, ◌∙◌}
use mathlib.Core.List.{List, map}
use Prim.Native.Nat.{ℕ}
use lib.ListN.{length, take}
use Rattle.std.specs.Prelude.{Result, Ok, Err, IsOk}
use Rattle.answer.specs.Told.{number}
use Rattle.sheets.specs.declared.SheetRefusal.{SheetRefusal}
use Rattle.sheets.specs.Verdict.{mapped, then}
use Rattle.sheets.specs.Sheet.{read_sheet}
use Rattle.sheets.specs.Output.{printed}
use Rattle.sheets.specs.Report.{measured_of, answer_of, report}
use Rattle.sheets.proofs.Printing.{length-refusal}
use Rattle.sheet_reader.specs.Held.{sheet_held}
use Rattle.sheet_reader.specs.declared.SheetRead.{SheetRead}
use Rattle.sheet_reader.proofs.Whole.{mapped_err}
use Rattle.tracker.specs.Tracked.{track_in}
use Rattle.tracker.specs.declared.Positions.{Positions}
use Rattle.tracker.specs.declared.Rejected.{Rejected}
use Rattle.sheet.specs.Held.{settings_held}
use Rattle.sheet.proofs.Reporting.{lines_err}

module _ (s : List ℕ) (other : length (report s) ≡ 17 → ⊥) where
  -- no refusal stands
  stands : {A : Type 0} (w : SheetRefusal) → Err w ≡ then (read_sheet s) answer_of → A
  unfolding report
  stands w e = absurd (other (ap (λ r. length (printed r)) (sym e) ∙ length-refusal (number w.refusal) w.line))

pub is_read : (s : List ℕ) (r : Result SheetRead SheetRefusal) → r ≡ mapped sheet_held (read_sheet s) → (length (report s) ≡ 17 → ⊥) → IsOk r
is_read s (Ok d) e other = refl
is_read s (Err w) e other = let h : read_sheet s ≡ Err w = mapped_err sheet_held (read_sheet s) w e in stands s other w (rw h)

pub is_tracked : (s : List ℕ) (d : SheetRead) (r : Result Positions Rejected) → Ok d ≡ mapped sheet_held (read_sheet s)
    → r ≡ track_in (settings_held d) (map measured_of (take d.count d.readings)) → (length (report s) ≡ 17 → ⊥) → IsOk r
is_tracked s d (Ok q) p e other = refl
is_tracked s d (Err k) p e other = stands s other _ (lines_err s d p k e)
