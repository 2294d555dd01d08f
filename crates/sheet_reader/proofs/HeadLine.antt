-- Line 1, read. Assumes nothing.
use mathlib.Core.Path.{◌≡◌, refl, sym}
use mathlib.Core.Bool.{Bool, true, false, cond}
use mathlib.Core.List.{List, []}
use Prim.Native.Nat.{ℕ}
use lib.IntN.{ℤ}
use Rattle.std.specs.Prelude.{◌≤◌, Some, None, Result, Ok, Err, IfOk}
use Rattle.std.specs.Option.{ok_or}
use Rattle.answer.specs.declared.Refusal.TheVariants.{BadForm, OutOfRange}
use Rattle.sheets.specs.Verdict.{refused, mapped, prepend}
use Rattle.sheets.specs.Sheet.{head_test, read_head}
use Rattle.sheets.specs.declared.SheetRefusal.{SheetRefusal}
use Rattle.sheets.proofs.Verdicts.{mapped-given}
use Rattle.sheets.proofs.Counts.{head-counts}
use Rattle.sheet_reader.specs.declared.head.Head.{Head}
use Rattle.sheet_reader.specs.Held.{line_at, row_held, head_in, head_held}
use Rattle.sheet_reader.proofs.Fill.{read_next}

module _ (s : List ℕ) where
  pub head_bad : line_at 5 s 0 ≡ None → mapped head_held (read_head s) ≡ refused BadForm 1
  head_bad e = rw (read_next, e)

  pub head_read : (zs : List ℤ) → line_at 5 s 0 ≡ Some zs → mapped head_held (read_head s) ≡ ok_or (head_in zs) (record { refusal = OutOfRange; line = 1 })
  unfolding Rattle.sheets.specs.Line.read_lines
  head_read zs e = rw (read_next, e) (go (head_test [] zs))
    where
      go : (b : Bool) → mapped head_held (cond b (prepend zs (Ok [])) (refused OutOfRange 1)) ≡ ok_or {E = SheetRefusal} (cond b (Some (row_held zs)) None) (record { refusal = OutOfRange; line = 1 })
      go true = refl
      go false = refl

  pub head_few : (r : Result Head SheetRefusal) → r ≡ mapped head_held (read_head s) → IfOk r (λ h. (h.stages ≤ 32) × (h.readings ≤ 64))
  head_few (Err w) e = tt
  head_few (Ok h) e =
      let (hs, a, b) = mapped-given head_held (read_head s) h (sym e) in
      let f = head-counts s hs a in
      rw (← b) (f.few-stages, f.few-readings)
