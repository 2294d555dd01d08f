-- Only the first 1,418 bytes of a sheet decide: its longest form has 1,417. Assumes nothing.
use mathlib.Core.Path.{◌≡◌, refl, sym, ap, ◌∙◌, subst}
use mathlib.Core.Bool.{Bool, true, false}
use mathlib.Core.List.{List, [], ◌∷◌}
use Prim.Native.Nat.{ℕ, zero, suc, ◌+◌, ◌*◌, ◌≤◌, ◌<◌, min}
use native.Mathlib.Omega.{arith}
use native.Mathlib.Nat.{mul-suc, add_assoc, add_comm, zero-add, suc-add}
use lib.Dec.{ltb, eqb}
use lib.IntN.{ℤ}
use lib.ListN.{length, take, drop, length-take}
use lib.Seq.{get_or-take, take-take, take-nil}
use borrow.Author.Tests.{ltb-true, ltb-false, lt-ltb, le-ltb, eqb-true, eqb-false, eq-eqb, ne_eqb}
use Rattle.sheets.specs.Field.{read_field}
use Rattle.std.specs.Prelude.{Ok, Err}
use Rattle.sheets.specs.Verdict.{Verdict, then}
use Rattle.sheets.specs.Line.{field_at, fields_read, form, values, read_lines}
use Rattle.sheets.specs.Sheet.{Rows, head_test, end_test, reading_test, only, stages_of, readings_of, sheet_length, read_head, read_ends, read_readings, read_end, read_rows, read_sheet}
use Rattle.sheets.specs.Report.{report}
use Rattle.sheets.proofs.Counts.{head-counts}

drop-take : {A : Type 0} (a n : ℕ) (s : List A) → drop a (take (a + n) s) ≡ take n (drop a s)
drop-take zero n s = rw zero-add
drop-take (suc a) n [] = rw (suc-add, take-nil n)
drop-take (suc a) n (x ∷ s) = rw suc-add (drop-take a n s)

-- the bytes from `at` on, k of them, stand before n
window : {A : Type 0} (at k n : ℕ) (s : List A) → at + k ≤ n → take k (drop at (take n s)) ≡ take k (drop at s)
window at k n s h =
    sym (drop-take at k (take n s)) ∙ ap (drop at) (take-take (at + k) n s h) ∙ drop-take at k s

module _ (n : ℕ) (s : List ℕ) where
  field-front : (at : ℕ) → at + 8 ≤ n → field_at (take n s) at ≡ field_at s at
  field-front at h = ap read_field (window at 8 n s h)

  fields-front : (k at : ℕ) → at + 8 * k ≤ n → fields_read k (take n s) at ≡ fields_read k s at
  unfolding fields_read
  fields-front zero at h = refl
  fields-front (suc k) at h = rw (field-front at (omega arith), fields-front k (at + 8) (omega arith))

  values-front : (k at : ℕ) → at + 8 * k ≤ n → values k (take n s) at ≡ values k s at
  unfolding values
  values-front zero at h = refl
  values-front (suc k) at h = rw (field-front at (omega arith), values-front k (at + 8) (omega arith))

  shorter : (p : ℕ) → p < n → ltb p (length (take n s)) ≡ ltb p (length s)
  shorter p h = go (ltb p (length s)) refl
    where
      l : length (take n s) ≡ min n (length s)
      l = length-take n s

      go : (t : Bool) → ltb p (length s) ≡ t → ltb p (length (take n s)) ≡ t
      go true e = let q = ltb-true p (length s) e in lt-ltb p (length (take n s)) (omega (arith, l))
      go false e = let q = ltb-false p (length s) e in le-ltb p (length (take n s)) (omega (arith, l))

  form-front : (k at : ℕ) → at + 8 * k < n → form k (take n s) at ≡ form k s at
  unfolding form
  form-front k at h = rw (shorter (at + 8 * k) h, get_or-take n s (at + 8 * k) 0 h, fields-front k at (omega arith))

  lines-front : (k : ℕ) (ok : List ℤ → List ℤ → Bool) (m : ℕ) (before : List ℤ) (l at : ℕ) → at + (8 * k + 1) * m ≤ n
      → read_lines k ok m before l at (take n s) ≡ read_lines k ok m before l at s
  unfolding read_lines
  lines-front k ok zero before l at h = refl
  lines-front k ok (suc m) before l at h =
      let e : (8 * k + 1) * suc m ≡ (8 * k + 1) * m + (8 * k + 1) = mul-suc (8 * k + 1) m in
      let g : at + (8 * k + 1) * suc m ≡ at + (8 * k + 1) + (8 * k + 1) * m = rw (e, add_comm ((8 * k + 1) * m) (8 * k + 1)) (sym (add_assoc at (8 * k + 1) ((8 * k + 1) * m))) in
      let f : at + (8 * k + 1) + (8 * k + 1) * m ≤ n = subst (λ (x : ℕ). x ≤ n) g h in
      rw (form-front k at (omega (arith, f)), values-front k at (omega (arith, f)), lines-front k ok m (values k s at) (l + 1) (at + (8 * k + 1)) f)

  end-front : (p : ℕ) → p < n → eqb (length (take n s)) p ≡ eqb (length s) p
  end-front p h = go (eqb (length s) p) refl
    where
      l : length (take n s) ≡ min n (length s)
      l = length-take n s

      go : (t : Bool) → eqb (length s) p ≡ t → eqb (length (take n s)) p ≡ t
      go true e = let q = eqb-true (length s) p e in eq-eqb (length (take n s)) p (omega (arith, l))
      go false e = let q : length s ≡ p → ⊥ = eqb-false (length s) p e in ne_eqb (length (take n s)) p (λ z. q (omega (arith, l, z)))

-- what follows the head, once it is read
after-head : List ℕ → List ℤ → Verdict Rows
after-head s h = then (read_ends (stages_of h) s) λ es. then (read_readings (stages_of h) (readings_of h) s) λ rs. read_end h es rs s

after_front : (s : List ℕ) (h : List ℤ) → stages_of h ≤ 32 → readings_of h ≤ 64 → after-head (take 1418 s) h ≡ after-head s h
unfolding after-head
after_front s h p q =
    let a : read_ends (stages_of h) (take 1418 s) ≡ read_ends (stages_of h) s = lines-front 1418 s 1 end_test (stages_of h) [] 2 41 (omega arith) in
    let b : read_readings (stages_of h) (readings_of h) (take 1418 s) ≡ read_readings (stages_of h) (readings_of h) s =
    lines-front 1418 s 2 reading_test (readings_of h) [] (2 + stages_of h) (41 + 9 * stages_of h) (omega arith) in
    let c : eqb (length (take 1418 s)) (sheet_length (stages_of h) (readings_of h)) ≡ eqb (length s) (sheet_length (stages_of h) (readings_of h)) =
    end-front 1418 s (sheet_length (stages_of h) (readings_of h)) (omega arith) in
    rw (a, b, c)

rows-front : (s : List ℕ) → read_rows (take 1418 s) ≡ read_rows s
unfolding read_rows after-head
rows-front s = rw (lines-front 1418 s 5 head_test 1 [] 1 0 (omega arith)) (go (read_head s) refl)
  where
    go : (r : Verdict (List (List ℤ))) → read_head s ≡ r → then r (λ hs. after-head (take 1418 s) (only hs)) ≡ then r (λ hs. after-head s (only hs))
    go (Err w) e = refl
    go (Ok hs) e = let c = head-counts s hs e in after_front s (only hs) c.few-stages c.few-readings

pub front : (s : List ℕ) → report s ≡ report (take 1418 s)
unfolding report read_sheet
front s = rw (rows-front s)
