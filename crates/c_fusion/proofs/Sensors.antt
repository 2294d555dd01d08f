-- One sensor beside a filter: what its test says, and that its addition on the rows that were read from a slice is that on the slice. Assumes nothing.
use mathlib.Core.Path.{◌≡◌, sym, ◌∙◌}
use mathlib.Core.List.{List}
use mathlib.Core.Bool.{true, ◌&&◌}
use Prim.Native.Nat.{ℕ, ◌-◌, ◌*◌}
use native.Mathlib.Omega.{arith}
use lib.Dec.{eqb}
use lib.ListN.{length}
use lib.Ieee.{Float}
use borrow.Author.Tests.{eqb-true}
use Rattle.std.specs.Prelude.{Ok}
use Rattle.answer.specs.Answer.{where_sized}
use Rattle.answer.proofs.Answers.{passed, passed_is}
use Rattle.answer.proofs.Choice.{and_left, and_right}
use Rattle.algebra.specs.Array.{pad_row, pad}
use Rattle.sizes.specs.Size.{count, part, front}
use Rattle.filtering.specs.Information.{Information, informed}
use Rattle.layout.specs.Layout.{vector_in, matrix_in, matrix_at}
use Rattle.layout.proofs.Calls.{matrix-used}
use Rattle.steps.specs.Step.{Rows}
use Rattle.information_steps.specs.Step.{information_rows, arrays_of}
use Rattle.information_steps.proofs.Ways.{shape-informed, length-informed}
use Rattle.c_copies.specs.declared.Places.{Places}
use Rattle.c_copies.specs.Filter.{is_filter_by, is_step_by, is_step, places_of}
use Rattle.c_copies.proofs.Filters.{Placed, placed_at}
use Rattle.c_copies.proofs.Steps.{vector-given}
use Rattle.c_information.specs.Information.{information_at, with_information}
use Rattle.c_information.proofs.Calls.{kept, information-read, put-information}
use Rattle.c_fusion.specs.Fusion.{is_sensor}

-- a call of the test gave the places P: slices of h, w and z numbers are a sensor, beside a filter of k numbers
pub record Given (n m i k h w z : ℕ) (P : Places) : Type 0 where
  pub passed : is_sensor n m i k h w z ≡ true
  pub at : Placed (λ m. m) n m i k P
  pub measured : z ≡ m
  pub sensor : h ≡ m * n
  pub noise : w ≡ m * m

pub sensor_given : (n m i k h w z : ℕ) {P : Places} → Ok P ≡ where_sized (is_sensor n m i k h w z) (places_of n m i) → Given n m i k h w z P
unfolding is_sensor is_step_by
sensor_given n m i k h w z e =
    let t = passed _ _ (sym e) in
    let s = and_left _ _ t in
    let l = and_right (is_step n m i k m z) _ t in
    record {
      passed = t;
      at = placed_at (λ m. m) n m i k (and_left _ _ s) (passed_is _ _ (sym e));
      measured = eqb-true z m (and_right (is_filter_by (λ m. m) n m i k) _ s);
      sensor = eqb-true h _ (and_left _ _ l);
      noise = eqb-true w _ (and_right (eqb h (m * n)) _ l);
    }

-- the lengths by the places, as the code tests them
pub sensor-tested : {n m i k : ℕ} {P : Places} → Placed (λ m. m) n m i k P → (h w : ℕ) → eqb h (P.q - P.h) && eqb w (P.x - P.r) ≡ eqb h (m * n) && eqb w (m * m)
sensor-tested {n} {m} {P = P} A h w =
    let eh : P.q - P.h ≡ m * n = omega arith in
    let er : P.x - P.r ≡ m * m = omega arith in
    λ t. eqb h (eh t) && eqb w (er t)

-- f is the slice, and P its places
module _ {n m i : ℕ} (f : List Float) {P : Places} (A : Placed (λ m. m) n m i (length f) P) where
  abbrev O : Information
  O = information_at n m i f

  pub fuses : (h w z : List Float) {a b w₀ w' : Rows} {u v v' g : List Float} → length h ≡ m * n → length w ≡ m * m → length z ≡ m
      → a ≡ pad (matrix_in (count P.m) (count P.n) h 0) → b ≡ pad (matrix_in (count P.m) (count P.m) w 0) → u ≡ pad_row (vector_in (count P.m) z 0)
      → v ≡ pad_row (vector_in (count P.n) f P.x) → w₀ ≡ pad (matrix_in (count P.n) (count P.n) f P.p)
      → (w', v') ≡ arrays_of (informed (count P.n) (count P.m) (part P.m P.n a) (part P.m P.m b) (front P.m u) (information_rows P.n w₀ v)) → g ≡ kept P f v' w'
      → g ≡ with_information n m i f (informed n m (matrix_at m n h 0) (matrix_at m m w 0) z O)
  fuses h w z lh lw lz ea eb eu ev ew e p =
      put-information f A (informed n m (matrix_at m n h 0) (matrix_at m m w 0) z O) (shape-informed n m (matrix_at m n h 0) (matrix_at m m w 0) z O, length-informed n m (matrix_at m n h 0) (matrix_at m m w 0) z O)
      (e
      ∙ λ t. arrays_of (informed (A.states t) (A.measurements t) (matrix-used 0 h A.measurements A.states (omega (arith, lh)) ea t) (matrix-used 0 w A.measurements A.measurements (omega (arith, lw)) eb t)
      (vector-given P.m z A.measurements lz eu t) (information-read f A ev ew t))) p
