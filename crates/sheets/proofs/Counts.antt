-- A sheet that reads has as many lines as line 1 says, within the limits. Assumes nothing.
use mathlib.Core.Path.{◌≡◌, refl, subst}
use mathlib.Core.Bool.{Bool, true, false, cond}
use mathlib.Core.List.{List, [], ◌∷◌, map}
use Prim.Native.Nat.{ℕ, ◌≤◌}
use native.Mathlib.Omega.{arith}
use lib.Dec.{eqb}
use lib.IntN.{ℤ}
use lib.ListN.{length, length-map}
use Rattle.std.specs.Prelude.{Ok}
use Rattle.answer.specs.declared.Refusal.TheVariants.{BadForm, OutOfRange}
use Rattle.sheets.specs.Verdict.{refused}
use Rattle.sheets.specs.Line.{form, values, read_lines, in_range, nth}
use Rattle.sheets.specs.Sheet.{Rows, Sheet, head_test, end_test, reading_test, only, stages_of, readings_of, readings_line, readings_at, sheet_length, end_of, reading_of, read_head, read_ends, read_readings, read_rows, read_sheet}
use Rattle.sheets.proofs.Verdicts.{and_l, and_r, then-given, mapped-given, cond-given, given-long}
use Rattle.sheets.proofs.Lines.{lines_long, range-both}

head-passes : (s : List ℕ) (hs : List (List ℤ)) → read_head s ≡ Ok hs → head_test [] (only hs) ≡ true
unfolding read_lines
head-passes s hs e = go (form 5 s 0) (head_test [] (values 5 s 0)) refl e
  where
    go : (x y : Bool) → head_test [] (values 5 s 0) ≡ y → cond x (cond y (Ok (values 5 s 0 ∷ [])) (refused OutOfRange 1)) (refused BadForm 1) ≡ Ok hs → head_test [] (only hs) ≡ true
    go true true p q = let u : values 5 s 0 ∷ [] ≡ hs = cc in subst (λ (v : List (List ℤ)). head_test [] (only v) ≡ true) u p
    go true false p q = let z : ◌≡◌ {A = ℕ} 0 1 = cc in absurd (omega arith)
    go false y p q = let z : ◌≡◌ {A = ℕ} 0 1 = cc in absurd (omega arith)

-- 1 to 32 stages, and 1 to 64 readings
pub record Few (stages readings : ℕ) : Type 0 where
  pub a_stage : 1 ≤ stages
  pub few-stages : stages ≤ 32
  pub a_reading : 1 ≤ readings
  pub few-readings : readings ≤ 64

counts : (h : List ℤ) → head_test [] h ≡ true → Few (stages_of h) (readings_of h)
counts h o =
    let o1 = and_r (in_range 1 99 (nth h 0)) _ o in
    let o2 = and_r (in_range 0 9999 (nth h 1)) _ o1 in
    let o3 = and_r (in_range 1 9999 (nth h 2)) _ o2 in
    let st = range-both 1 32 (nth h 3) (and_l (in_range 1 32 (nth h 3)) _ o3) in
    let co = range-both 1 64 (nth h 4) (and_r (in_range 1 32 (nth h 3)) _ o3) in
    record { a_stage = st.0; few-stages = st.1; a_reading = co.0; few-readings = co.1 }

pub head-counts : (s : List ℕ) (hs : List (List ℤ)) → read_head s ≡ Ok hs → Few (stages_of (only hs)) (readings_of (only hs))
head-counts s hs e = counts (only hs) (head-passes s hs e)

-- rows that were read
pub record Counted (r : Rows) : Type 0 where
  pub stages : length r.ends ≡ stages_of r.head
  pub readings : length r.readings ≡ readings_of r.head
  pub few : Few (stages_of r.head) (readings_of r.head)

pub rows-counted : (s : List ℕ) (r : Rows) → read_rows s ≡ Ok r → Counted r
unfolding read_rows
rows-counted s r e =
    let (hs, p, q) = then-given (read_head s) _ r e in
    let h = only hs in
    let (es, p2, q2) = then-given (read_ends (stages_of h) s) _ r q in
    let (rs, p3, q3) = then-given (read_readings (stages_of h) (readings_of h) s) _ r q2 in
    subst Counted (cond-given (eqb (length s) (sheet_length (stages_of h) (readings_of h))) _ r _ q3).1
    (record {
      stages = given-long (stages_of h) (read_ends (stages_of h) s) es (lines_long 1 end_test (stages_of h) [] 2 41 s) p2;
      readings = given-long (readings_of h) (read_readings (stages_of h) (readings_of h) s) rs
          (lines_long 2 reading_test (readings_of h) [] (readings_line (stages_of h)) (readings_at (stages_of h)) s) p3;
      few = head-counts s hs p;
    })

-- a sheet that was read has 1 to 32 stages and 1 to 64 readings
pub sheet-counted : (s : List ℕ) (sh : Sheet) → read_sheet s ≡ Ok sh → Few (length sh.ends) (length sh.readings)
unfolding read_sheet
sheet-counted s sh e =
    let (r, p, q) = mapped-given _ (read_rows s) sh e in
    let c = rows-counted s r p in
    let f : Few (length (map end_of r.ends)) (length (map reading_of r.readings)) =
    rw (length-map r.ends end_of, c.stages, length-map r.readings reading_of, c.readings) c.few in
    subst (λ (x : Sheet). Few (length x.ends) (length x.readings)) q f
