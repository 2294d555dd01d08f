-- Sensors that stand one after another in a slice, fused one by one. Assumes nothing.
use mathlib.Core.Path.{◌≡◌, refl, sym, ap, ap₂, subst, ◌∙◌}
use mathlib.Core.List.{List, [], ◌∷◌}
use mathlib.Core.Bool.{Bool, true, false, ◌&&◌}
use Prim.Native.Nat.{ℕ, zero, suc, ◌+◌, ◌*◌, ◌/◌, ◌%◌, ◌≤◌, ◌<◌}
use native.Mathlib.Nat.{div-eq_of_eq-mul_left, mod-add-div'}
use native.Mathlib.Numerals.{add-one}
use native.Mathlib.Omega.{arith}
use lib.Dec.{eqb}
use lib.ListN.{length}
use lib.Ieee.{Float}
use borrow.Author.Tests.{eqb-true, eqb-false, eq-eqb}
use Rattle.answer.specs.Table.{table}
use Rattle.answer.proofs.Choice.{and_left, and_right}
use Rattle.answer.proofs.Tables.{length-table}
use Rattle.algebra.specs.Array.{pad_row, pad}
use Rattle.algebra.proofs.Matrices.{shape-mat}
use Rattle.sizes.specs.declared.Size.{Size}
use Rattle.sizes.specs.Size.{count, front, part}
use Rattle.sizes.proofs.Sizes.{bounds}
use Rattle.filtering.specs.Information.{Information, informed, Reading, fuse}
use Rattle.layout.specs.Layout.{vector_at, matrix_at, vector_in, matrix_in}
use Rattle.layout.proofs.Rows.{ends-within}
use Rattle.layout.proofs.Calls.{vector-read, matrix-read, vector-used, matrix-used}
use Rattle.steps.specs.Step.{Rows}
use Rattle.information_steps.specs.Step.{information_rows, arrays_of}
use Rattle.information_steps.proofs.Ways.{Sized, shape-informed, length-informed, information-back}
use Rattle.c_copies.specs.declared.Places.{Places}
use Rattle.c_copies.proofs.Filters.{Placed}
use Rattle.c_information.specs.Information.{information_at, with_information}
use Rattle.c_information.proofs.Calls.{kept, put-information}
use Rattle.c_fusion.specs.declared.SensorPlaces.{SensorPlaces}
use Rattle.c_fusion.specs.Fusion.{reading_length, sensor_places, reading_at, readings_at}

-- ---- k is c times e, tested by division
pub divided : (k c : ℕ) {e : ℕ} → 0 < e → eqb (k / e) c && eqb (k % e) 0 ≡ eqb k (c * e)
divided k c {e} h = go (eqb k (c * e)) refl (eqb (k / e) c && eqb (k % e) 0) refl
  where
    go : (a : Bool) → eqb k (c * e) ≡ a → (b : Bool) → eqb (k / e) c && eqb (k % e) 0 ≡ b → eqb (k / e) c && eqb (k % e) 0 ≡ eqb k (c * e)
    go true p b q =
        let whole : k ≡ c * e = eqb-true k (c * e) p in
        let times : k / e ≡ c = div-eq_of_eq-mul_left h whole in
        let product : k / e * e ≡ c * e = ap (λ (x : ℕ). x * e) times in
        ap₂ (λ (x y : Bool). x && y) (eq-eqb (k / e) c times) (eq-eqb (k % e) 0 (omega (arith, mod-add-div' k e))) ∙ sym p
    go false p false q = q ∙ sym p
    go false p true q =
        let times : k / e ≡ c = eqb-true (k / e) c (and_left _ _ q) in
        let rest : k % e ≡ 0 = eqb-true (k % e) 0 (and_right (eqb (k / e) c) _ q) in
        let product : k / e * e ≡ c * e = ap (λ (x : ℕ). x * e) times in
        absurd (eqb-false k (c * e) p (omega (arith, mod-add-div' k e)))

-- a sensor takes some numbers; and a slice of k numbers, as the code tests it beside a filter: each is where a sensor's parts begin
takes_some : (N M : Size) {each : SensorPlaces} → each ≡ sensor_places (count N) (count M) → 0 < each.len
takes_some N M e = omega (arith, ap (λ (q : SensorPlaces). q.len) e, (bounds M).least)

pub each-tested : {n m i q : ℕ} {P : Places} {each : SensorPlaces} → Placed (λ m. m) n m i q P → (c k : ℕ) → each ≡ sensor_places (count P.n) (count P.m)
    → eqb (k / each.len) c && eqb (k % each.len) 0 ≡ eqb k (c * reading_length n m)
each-tested {n} {m} {P = P} {each} A c k e =
    let same : each.len ≡ reading_length n m = ap (λ (q : SensorPlaces). q.len) e ∙ λ t. reading_length (A.states t) (A.measurements t) in
    divided k c (takes_some P.n P.m e) ∙ ap (λ (x : ℕ). eqb k (c * x)) same

-- ---- where the parts of sensor j stand, by the places p within it, as the code has them
pub record Laid (N M : Size) (s : List Float) (j : ℕ) (p : SensorPlaces) : Type 0 where
  pub is : p ≡ sensor_places (count N) (count M)
  pub start : j * p.len ≡ j * reading_length (count N) (count M)
  pub ends : j * p.len + p.z + count M ≤ length s
  pub second : p.w ≡ count M * count N
  pub third : p.z ≡ count M * count N + count M * count M

pub laid : {N M : Size} {s : List Float} {j : ℕ} {p : SensorPlaces} → j * reading_length (count N) (count M) + reading_length (count N) (count M) ≤ length s
    → p ≡ sensor_places (count N) (count M) → Laid N M s j p
laid {j = j} room e =
    let start = ap (λ (q : SensorPlaces). j * q.len) e in
    let second = ap (λ (q : SensorPlaces). q.w) e in
    let third = ap (λ (q : SensorPlaces). q.z) e in
    record { is = e; start = start; ends = omega arith; second = second; third = third }

module _ {N M : Size} {s : List Float} {j : ℕ} {p : SensorPlaces} (L : Laid N M s j p) where
  pub sensor-read : {h : Rows} → h ≡ pad (matrix_in (count M) (count N) s (j * p.len)) → part M N h ≡ (reading_at (count N) (count M) s j).h
  sensor-read e = matrix-used (j * p.len) s refl refl (omega arith) e ∙ ap (matrix_at (count M) (count N) s) L.start

  pub noise-read : {w : Rows} → w ≡ pad (matrix_in (count M) (count M) s (j * p.len + p.w)) → part M M w ≡ (reading_at (count N) (count M) s j).w
  noise-read e = matrix-used (j * p.len + p.w) s refl refl (omega arith) e ∙ ap₂ (λ (x y : ℕ). matrix_at (count M) (count M) s (x + y)) L.start L.second

  pub measured-read : {z : List Float} → z ≡ pad_row (vector_in (count M) s (j * p.len + p.z)) → front M z ≡ (reading_at (count N) (count M) s j).z
  measured-read e =
      let place : j * p.len + p.z ≡ j * reading_length (count N) (count M) + count M * count N + count M * count M = omega arith in
      vector-used (j * p.len + p.z) s refl (omega arith) e ∙ ap (vector_at (count M) s) place

-- ---- one reading more, at the end; and what is left is of n states
fuse-more : (n m c : ℕ) (g : ℕ → Reading) (o : Information) → fuse n m (table (suc c) g) o ≡ fuse n m (g c ∷ []) (fuse n m (table c g) o)
unfolding fuse
fuse-more n m zero g o = refl
fuse-more n m (suc c) g o = fuse-more n m c (λ j. g (suc j)) (informed n m (g zero).h (g zero).w (g zero).z o)

pub fuse-sized : (n m : ℕ) (l : List Reading) (o : Information) → Sized n o → Sized n (fuse n m l o)
unfolding fuse
fuse-sized n m [] o s = s
fuse-sized n m (r ∷ l) o s =
    fuse-sized n m l (informed n m r.h r.w r.z o) (shape-informed n m r.h r.w r.z o, length-informed n m r.h r.w r.z o)

-- ---- the loop over c sensors in s, begun at the information o: j are fused, and the arrays w and v have what they leave
pub record Fusing (N M : Size) (s : List Float) (o : Information) (c j : ℕ) (w : Rows) (v : List Float) : Type 0 where
  pub long : length s ≡ c * reading_length (count N) (count M)
  pub sized : Sized (count N) o
  pub within : j ≤ c
  pub is : (w, v) ≡ arrays_of (fuse (count N) (count M) (readings_at (count N) (count M) s j) o)

module _ {N M : Size} {s : List Float} {o : Information} {c : ℕ} {w : Rows} {v : List Float} where
  pub fusing-none : length s ≡ c * reading_length (count N) (count M) → Sized (count N) o → (w, v) ≡ arrays_of o → Fusing N M s o c 0 w v
  unfolding fuse
  fusing-none l z e = record { long = l; sized = z; within = omega arith; is = e }

  pub fusing-room : {j : ℕ} → Fusing N M s o c j w v → j < c → j * reading_length (count N) (count M) + reading_length (count N) (count M) ≤ length s
  fusing-room {j} F h = omega (arith, F.long, ends-within {k = j} {n = c} (reading_length (count N) (count M)) h)

  pub fusing-more : {j : ℕ} {w' : Rows} {v' : List Float} → Fusing N M s o c j w v → j < c
      → (w', v') ≡ arrays_of (fuse (count N) (count M) (reading_at (count N) (count M) s j ∷ []) (information_rows N w v)) → Fusing N M s o c (j + 1) w' v'
  fusing-more {j} F h e =
      let n = count N in
      let m = count M in
      let before = fuse n m (readings_at n m s j) o in
      let z = fuse-sized n m (readings_at n m s j) o F.sized in
      let back = information-back N before z.0 z.1 F.is in
      record {
        long = F.long;
        sized = F.sized;
        within = omega arith;
        is = e ∙ ap (λ (b : Information). arrays_of (fuse n m (reading_at n m s j ∷ []) b)) back
            ∙ ap arrays_of (sym (fuse-more n m j (reading_at n m s) o)) ∙ ap (λ (k : ℕ). arrays_of (fuse n m (readings_at n m s k) o)) (sym (add-one j));
      }

  pub fusing-all : {j : ℕ} → Fusing N M s o c j w v → c ≤ j → (w, v) ≡ arrays_of (fuse (count N) (count M) (readings_at (count N) (count M) s c) o)
  fusing-all {j} F h =
      let all : j ≡ c = omega (arith, F.within) in
      F.is ∙ ap (λ (k : ℕ). arrays_of (fuse (count N) (count M) (readings_at (count N) (count M) s k) o)) all

-- ---- begun with what a filter's slice f keeps, and put back into it
module _ {n m i : ℕ} (f : List Float) {P : Places} (A : Placed (λ m. m) n m i (length f) P) where
  sized_at : Sized n (information_at n m i f)
  sized_at = (shape-mat n n _, length-table n _)

  pub fusing-begun : (s : List Float) (c : ℕ) {w : Rows} {v : List Float} → length s ≡ c * reading_length n m → v ≡ pad_row (vector_in (count P.n) f P.x) → w ≡ pad (matrix_in (count P.n) (count P.n) f P.p)
      → Fusing P.n P.m s (information_at n m i f) c 0 w v
  fusing-begun s c l ev ew =
      fusing-none (l ∙ λ t. c * reading_length (sym A.states t) (sym A.measurements t)) (subst (λ (x : ℕ). Sized x (information_at n m i f)) (sym A.states) sized_at)
      (λ t. (
        (matrix-read P.p f A.states A.states (omega arith) ew ∙ ap (λ (x : ℕ). pad (matrix_at n n f x)) A.p) t,
        (vector-read P.x f A.states (omega arith) ev ∙ ap (λ (x : ℕ). pad_row (vector_at n f x)) A.x) t,
      ))

  pub fusing-ended : {s : List Float} {c j : ℕ} {w : Rows} {v g : List Float} → Fusing P.n P.m s (information_at n m i f) c j w v → c ≤ j → g ≡ kept P f v w
      → g ≡ with_information n m i f (fuse n m (readings_at n m s c) (information_at n m i f))
  fusing-ended {s} {c} F h p =
      put-information f A (fuse n m (readings_at n m s c) (information_at n m i f)) (fuse-sized n m (readings_at n m s c) (information_at n m i f) sized_at)
      (fusing-all F h ∙ λ t. arrays_of (fuse (A.states t) (A.measurements t) (readings_at (A.states t) (A.measurements t) s c) (information_at n m i f))) p
