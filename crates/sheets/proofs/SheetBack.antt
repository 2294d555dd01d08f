-- What is written reads back: a line, lines one after another, a sheet. Assumes nothing.
use mathlib.Core.Path.{◌≡◌, refl, sym, ap, ◌∙◌}
use mathlib.Core.Bool.{Bool, true}
use mathlib.Core.List.{List, [], ◌∷◌, ◌++◌, append_assoc, append-nil}
use Rattle.std.specs.Prelude.{Some, Ok}
use Prim.Native.Nat.{ℕ, ◌+◌, ◌*◌, ◌<◌}
use native.Mathlib.Nat.{mul-zero, mul-suc, add_comm}
use native.Mathlib.Omega.{arith}
use lib.IntN.{ℤ}
use lib.ListN.{length, get_or, length-append}
use lib.Seq.{drop_at, take_at, get_or_at}
use borrow.Author.Tests.{lt-ltb, eq-eqb}
use Rattle.sheets.specs.Field.{write_field, holds}
use Rattle.sheets.specs.Line.{field_at, fields_read, form, values, read_lines}
use Rattle.sheets.specs.Sheet.{Rows, head_test, end_test, reading_test, stages_of, readings_of, read_head, read_ends, read_readings, read_rows}
use Rattle.sheets.specs.Output.{line_text}
use Rattle.sheets.specs.Texts.{Fitting, no_more, one_more, Admitted, done, row, Sheetable, lines_text, sheet_text}
use Rattle.sheets.proofs.FieldBack.{field_back, length-field}

-- the fields of a line, without its end
unfoldable pub bare : List ℤ → List ℕ
bare [] = []
bare (z ∷ zs) = write_field z ++ bare zs

pub line-bare : (zs : List ℤ) → line_text zs ≡ bare zs ++ (10 ∷ [])
unfolding line_text bare
line-bare [] = refl
line-bare (z ∷ zs) = rw (line-bare zs) (sym (append_assoc (write_field z) (bare zs) (10 ∷ [])))

length-bare : (zs : List ℤ) → length (bare zs) ≡ 8 * length zs
unfolding bare
length-bare [] = refl
length-bare (z ∷ zs) = rw (length-append (write_field z) (bare zs), length-field z, length-bare zs) (omega arith)

field_at_lem : (p q : List ℕ) (z : ℤ) (at : ℕ) → length p ≡ at → holds z ≡ true → field_at (p ++ (write_field z ++ q)) at ≡ Some z
field_at_lem p q z at l h = rw (drop_at p (write_field z ++ q) at l, take_at (write_field z) q 8 (length-field z)) (field_back z h)

fields_back : (p q : List ℕ) (zs : List ℤ) (at : ℕ) → length p ≡ at → Fitting zs
    → (fields_read (length zs) (p ++ (bare zs ++ q)) at ≡ true) × (values (length zs) (p ++ (bare zs ++ q)) at ≡ zs)
unfolding fields_read values bare
fields_back p q [] at l no_more = (refl, refl)
fields_back p q (z ∷ zs) at l (one_more h f) =
    let e : p ++ ((write_field z ++ bare zs) ++ q) ≡ p ++ (write_field z ++ (bare zs ++ q)) = ap (λ (x : List ℕ). p ++ x) (append_assoc (write_field z) (bare zs) q) in
    let m : length (p ++ write_field z) ≡ at + 8 = rw (length-append p (write_field z), length-field z, l) in
    let g : p ++ (write_field z ++ (bare zs ++ q)) ≡ (p ++ write_field z) ++ (bare zs ++ q) = sym (append_assoc p (write_field z) (bare zs ++ q)) in
    let ih = fields_back (p ++ write_field z) q zs (at + 8) m f in
    let b : field_at (p ++ (write_field z ++ (bare zs ++ q))) at ≡ Some z = field_at_lem p (bare zs ++ q) z at l h in
    (rw (e, b, g) ih.0, rw (e, b, g, ih.1))

-- a line that was written has its form, and its numbers are those written
pub line_at : (p q : List ℕ) (zs : List ℤ) (at : ℕ) → length p ≡ at → Fitting zs
    → (form (length zs) (p ++ (line_text zs ++ q)) at ≡ true) × (values (length zs) (p ++ (line_text zs ++ q)) at ≡ zs)
unfolding form
line_at p q zs at l f =
    let e : line_text zs ++ q ≡ bare zs ++ (10 ∷ q) = rw (line-bare zs) (append_assoc (bare zs) (10 ∷ []) q) in
    let b = fields_back p (10 ∷ q) zs at l f in
    let g : p ++ (bare zs ++ (10 ∷ q)) ≡ (p ++ bare zs) ++ (10 ∷ q) = sym (append_assoc p (bare zs) (10 ∷ q)) in
    let m : length (p ++ bare zs) ≡ at + 8 * length zs = rw (length-append p (bare zs), length-bare zs, l) in
    let n : at + 8 * length zs < length (p ++ (bare zs ++ (10 ∷ q))) = rw (g, length-append (p ++ bare zs) (10 ∷ q), m) (omega arith) in
    let c : get_or (p ++ (bare zs ++ (10 ∷ q))) (at + 8 * length zs) 0 ≡ 10 = rw g (get_or_at (p ++ bare zs) 10 q 0 (at + 8 * length zs) m) in
    (rw (e, lt-ltb (at + 8 * length zs) (length (p ++ (bare zs ++ (10 ∷ q)))) n, eq-eqb (get_or (p ++ (bare zs ++ (10 ∷ q))) (at + 8 * length zs) 0) 10 c) b.0, rw e b.1)

pub length-line : (zs : List ℤ) → length (line_text zs) ≡ 8 * length zs + 1
length-line zs = rw (line-bare zs, length-append (bare zs) (10 ∷ []), length-bare zs)

-- lines that were written are read
pub lines-back : (k : ℕ) (ok : List ℤ → List ℤ → Bool) (before : List ℤ) (rows : List (List ℤ)) (p q : List ℕ) (l at : ℕ) → length p ≡ at → Admitted k ok before rows
    → read_lines k ok (length rows) before l at (p ++ (lines_text rows ++ q)) ≡ Ok rows
unfolding read_lines lines_text
lines-back k ok before [] p q l at h done = refl
lines-back k ok before (zs ∷ rows) p q l at h (row n f o r) =
    let e : p ++ ((line_text zs ++ lines_text rows) ++ q) ≡ p ++ (line_text zs ++ (lines_text rows ++ q)) = ap (λ (x : List ℕ). p ++ x) (append_assoc (line_text zs) (lines_text rows) q) in
    let g : p ++ (line_text zs ++ (lines_text rows ++ q)) ≡ (p ++ line_text zs) ++ (lines_text rows ++ q) = sym (append_assoc p (line_text zs) (lines_text rows ++ q)) in
    let b = line_at p (lines_text rows ++ q) zs at h f in
    let bf = rw n at b.0 in
    let bv = rw n at b.1 in
    let m : length (p ++ line_text zs) ≡ at + (8 * k + 1) = rw (length-append p (line_text zs), length-line zs, n, h) in
    let ih = lines-back k ok zs rows (p ++ line_text zs) q (l + 1) (at + (8 * k + 1)) m r in
    rw (e, bf, bv, o, g, ih)

-- ---- a whole sheet

length-rows : (k : ℕ) (ok : List ℤ → List ℤ → Bool) (before : List ℤ) (rows : List (List ℤ)) → Admitted k ok before rows → length (lines_text rows) ≡ (8 * k + 1) * length rows
unfolding lines_text
length-rows k ok before [] done = sym (mul-zero (8 * k + 1))
length-rows k ok before (zs ∷ rows) (row n f o r) =
    rw (length-append (line_text zs) (lines_text rows), length-line zs, n, length-rows k ok zs rows r, mul-suc (8 * k + 1) (length rows)) (add_comm (8 * k + 1) ((8 * k + 1) * length rows))

-- the sheet that is written reads back
pub sheet-back : (r : Rows) → Sheetable r → read_rows (sheet_text r) ≡ Ok r
unfolding read_rows
sheet-back r g =
    let st = stages_of r.head in
    let co = readings_of r.head in
    let h = lines_text (r.head ∷ []) in
    let e = lines_text r.ends in
    let w = lines_text r.readings in
    let s = h ++ (e ++ w) in
    let lh : length h ≡ 41 = length-rows 5 head_test [] (r.head ∷ []) g.head-row in
    let le : length e ≡ 9 * st = length-rows 1 end_test [] r.ends g.end-rows ∙ ap (λ (n : ℕ). 9 * n) g.stages in
    let lw : length w ≡ 17 * co = length-rows 2 reading_test [] r.readings g.reading_rows ∙ ap (λ (n : ℕ). 17 * n) g.count in
    let a : read_head s ≡ Ok (r.head ∷ []) = lines-back 5 head_test [] (r.head ∷ []) [] (e ++ w) 1 0 refl g.head-row in
    let b : read_ends (length r.ends) s ≡ Ok r.ends = lines-back 1 end_test [] r.ends h w 2 41 lh g.end-rows in
    let b2 : read_ends st s ≡ Ok r.ends = rw g.stages at b in
    let lhe : length (h ++ e) ≡ 41 + 9 * st = rw (length-append h e, lh, le) in
    let z : s ≡ (h ++ e) ++ (w ++ []) = rw (append-nil w) (sym (append_assoc h e w)) in
    let d : read_readings st (length r.readings) s ≡ Ok r.readings =
    rw z (lines-back 2 reading_test [] r.readings (h ++ e) [] (2 + st) (41 + 9 * st) lhe g.reading_rows) in
    let d2 : read_readings st co s ≡ Ok r.readings = rw g.count at d in
    let l : length s ≡ 41 + 9 * st + 17 * co = rw (length-append h (e ++ w), length-append e w, lh, le, lw) (omega arith) in
    let t : sheet_text r ≡ s = unfold sheet_text in refl in
    rw (t, a, b2, d2, eq-eqb (length s) (41 + 9 * st + 17 * co) l)
