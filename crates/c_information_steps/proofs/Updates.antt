-- A step on the rows that were read from a slice is that on the slice, and what is put back is what it leaves. Assumes nothing.
use mathlib.Core.Path.{◌≡◌, refl, sym, ap, ◌∙◌}
use mathlib.Core.List.{List, []}
use mathlib.Core.Bool.{Bool, true}
use Prim.Native.Nat.{ℕ}
use native.Mathlib.Omega.{arith}
use lib.ListN.{length}
use lib.Ieee.{Float}
use Rattle.std.specs.Prelude.{Ok, Err}
use Rattle.answer.specs.declared.Refusal.{Refusal}
use Rattle.answer.specs.Answer.{Answer, mapped}
use Rattle.answer.proofs.Answers.{differ, same_answer, same-refusal}
use Rattle.answer.specs.Outcome.{Outcome, unchanged, this, if_fitting, handed, ◌else_leave◌then◌}
use Rattle.algebra.specs.Matrix.{Vector, Matrix}
use Rattle.algebra.specs.Array.{cut, pad_row, pad}
use Rattle.algebra.specs.Inverse.{inv}
use Rattle.algebra.proofs.Arrays.{cut-pad_row}
use Rattle.sizes.specs.Size.{count, part, front}
use Rattle.matrix.specs.Result.{as_matrix, as_vector}
use Rattle.filtering.specs.Filter.{Sensor, innovation}
use Rattle.filtering.specs.Information.{Information, state, informed, predict, update}
use Rattle.filtering.proofs.Shapes.{length-innovation}
use Rattle.layout.specs.Layout.{vector_in, matrix_in, placed, put_at}
use Rattle.layout.proofs.Places.{placed-whole}
use Rattle.layout.proofs.Calls.{part-read, vector-put}
use Rattle.steps.specs.Step.{Rows, motion_rows, sensor_rows}
use Rattle.information_steps.specs.Step.{information_rows, arrays_of, update_by}
use Rattle.information_steps.proofs.Ways.{Plain, plain, shape-informed, length-informed, update_is, inverted, rejected}
use Rattle.c_copies.specs.declared.Places.{Places}
use Rattle.c_copies.specs.Filter.{filter_parts_by, motion_at, sensor_at}
use Rattle.c_copies.proofs.Filters.{Placed}
use Rattle.c_copies.proofs.Steps.{vector-given, motion-read, measuring-read}
use Rattle.c_information.specs.Information.{information_at, with_information, stepped_in}
use Rattle.c_information.proofs.Calls.{kept, information-read, put-information}
use Rattle.c_information_steps.specs.Steps.{outcome_in}

-- what an update of the slice f by z comes to, where y holds the innovation's place; and where its test is passed
abbrev whole : ℕ → ℕ → ℕ → List Float → List Float → Outcome Information Vector
whole n m i f z = update (sensor_at n m i f) z (information_at n m i f)

pub fitted-update : (n m i : ℕ) (f z y : List Float) {t : Bool} {x : Answer (Unit {0}) × (List Float × List Float)} → t ≡ true → x ≡ outcome_in n m i f y (whole n m i f z)
    → x ≡ outcome_in n m i f y (if_fitting t (whole n m i f z))
fitted-update n m i f z y e p = p ∙ ap (λ (b : Bool). outcome_in n m i f y (if_fitting b (whole n m i f z))) (sym e)

-- ---- f is the slice, and P its places
module _ {n m i : ℕ} (f : List Float) {P : Places} (A : Placed (λ m. m) n m i (length f) P) where
  -- ---- a prediction: what is read, and by what is told
  pub predict-read : (u : List Float) {a b q w : Rows} {v x : List Float} → length u ≡ i → a ≡ pad (matrix_in (count P.n) (count P.n) f 0) → b ≡ pad (matrix_in (count P.n) (count P.i) f P.b)
      → q ≡ pad (matrix_in (count P.n) (count P.n) f P.q) → v ≡ pad_row (vector_in (count P.i) u 0) → x ≡ pad_row (vector_in (count P.n) f P.x) → w ≡ pad (matrix_in (count P.n) (count P.n) f P.p)
      → predict (motion_rows P.n P.i a b q) (front P.i v) (information_rows P.n w x) ≡ predict (motion_at n m i f) u (information_at n m i f)
  predict-read u l ea eb eq ev ex ew = λ t. predict (motion-read f A ea eb eq t) (vector-given P.i u A.inputs l ev t) (information-read f A ex ew t)

  module _ (w : Rows) (v : List Float) {w' : Rows} {v' : List Float} where
    pub stepped : {o : Outcome Information (Unit {0})} {g : List Float} → Plain n o → (Ok tt, (w', v')) ≡ handed (λ t. t) arrays_of (w, v) o → g ≡ kept P f v' w'
        → (Ok tt, g) ≡ stepped_in n m i f o
    stepped (plain (Err j) l) e q = absurd (differ (λ t. (sym e t).0))
    stepped (plain (Ok o) l) e q = λ t. (Ok tt, put-information f A o (l o refl) (λ t. (e t).1) q t)

    pub stopped : {o : Outcome Information (Unit {0})} {j : Refusal} {s : Answer (Unit {0})} → Plain n o → (Err j, (w', v')) ≡ handed (λ t. t) arrays_of (w, v) o → s ≡ Err j
        → (s, f) ≡ stepped_in n m i f o
    stopped (plain (Err a) l) e q = λ t. ((q ∙ λ t. (e t).0) t, f)
    stopped (plain (Ok o) l) e q = absurd (differ (λ t. (e t).0))

  -- ---- an update: w₁ is the inverted noise, whose rows are r
  abbrev Y : Sensor Matrix
  Y = sensor_at n m i f

  abbrev O : Information
  O = information_at n m i f

  module _ (z y : List Float) {r : Rows} {w₁ : Answer Rows} (er : r ≡ pad (matrix_in (count P.m) (count P.m) f P.r)) (e₁ : w₁ ≡ as_matrix (inv (count P.m) (part P.m P.m r))) where
    noise : inv m Y.r ≡ inv (count P.m) (part P.m P.m r)
    noise = sym (λ t. inv (A.measurements t) (part-read (filter_parts_by (λ m. m) n m i) f 4 (omega arith) (omega arith) A.measurements A.measurements A.r er t))

    by_noise : {a : Answer Matrix} → inv (count P.m) (part P.m P.m r) ≡ a → outcome_in n m i f y (whole n m i f z) ≡ outcome_in n m i f y (a else_leave unchanged then update_by Y z O)
    by_noise q = ap (outcome_in n m i f y) (update_is Y z O ∙ ap (λ (a : Answer Matrix). a else_leave unchanged then update_by Y z O) (noise ∙ q))

    pub not_updated : {j : Refusal} {s : Answer (Unit {0})} → w₁ ≡ Err j → s ≡ Err j → (s, (f, y)) ≡ outcome_in n m i f y (whole n m i f z)
    not_updated d q = (λ t. (q t, (f, y))) ∙ sym (by_noise (rejected P.m r e₁ d))

    -- by the inverted noise V: what is told, a, and what is left in the rows w' and v'
    module _ (lz : length z ≡ m) {V h w w' : Rows} {u v v' g : List Float} {a : Answer (List Float)} (d : w₁ ≡ Ok V) (eh : h ≡ pad (matrix_in (count P.m) (count P.n) f P.h))
        (eu : u ≡ pad_row (vector_in (count P.m) z 0)) (ev : v ≡ pad_row (vector_in (count P.n) f P.x)) (ew : w ≡ pad (matrix_in (count P.n) (count P.n) f P.p))
        (e : (a, (w', v')) ≡ handed as_vector arrays_of (w, v) (update_by (sensor_rows P.n P.m h []) (front P.m u) (information_rows P.n w v) (part P.m P.m V))) (p : g ≡ kept P f v' w') where
      abbrev o' : Information
      o' = informed n m Y.h (part P.m P.m V) z O

      same : (a, (w', v')) ≡ handed as_vector arrays_of (w, v) (update_by Y z O (part P.m P.m V))
      same = e ∙ λ t. handed as_vector arrays_of (w, v)
          (update_by (record { n = A.states t; m = A.measurements t; h = measuring-read f A eh t; r = Y.r }) (vector-given P.m z A.measurements lz eu t) (information-read f A ev ew t) (part P.m P.m V))

      left : g ≡ with_information n m i f o'
      left = put-information f A o' (shape-informed n m Y.h (part P.m P.m V) z O, length-informed n m Y.h (part P.m P.m V) z O) (λ t. (same t).1) p

      abbrev of : Answer Vector → Answer (Unit {0}) × (List Float × List Float)
      of b = outcome_in n m i f y (record { told = mapped (λ x. innovation m n Y.h x z) b; left = this o' })

      pub updates : {x y' : List Float} → length y ≡ m → a ≡ Ok x → y' ≡ put_at 0 (cut (count P.m) x) y → (Ok tt, (g, y')) ≡ outcome_in n m i f y (whole n m i f z)
      updates {x} {y'} ly q ey = go (state n o') (λ t. (same t).0) ∙ sym (by_noise (inverted P.m r e₁ d))
        where
          go : (b : Answer Vector) → a ≡ as_vector (mapped (λ x. innovation m n Y.h x z) b) → (Ok tt, (g, y')) ≡ of b
          go (Err j) c = absurd (differ (sym c ∙ q))
          go (Ok x') c =
              let told = innovation m n Y.h x' z in
              let lt = length-innovation m n Y.h x' z in
              let there : y' ≡ told =
              vector-put 0 y x A.measurements (omega (arith, ly)) ey
              ∙ ap (λ (b : Vector). placed 0 b y) (ap (cut m) (same_answer (sym q ∙ c)) ∙ cut-pad_row m told lt)
              ∙ placed-whole told y (lt ∙ sym ly) in
              λ t. (Ok tt, (left t, there t))

      pub refuses : {j : Refusal} {s : Answer (Unit {0})} → a ≡ Err j → s ≡ Err j → (s, (g, y)) ≡ outcome_in n m i f y (whole n m i f z)
      refuses {j} {s} q told = go (state n o') (λ t. (same t).0) ∙ sym (by_noise (inverted P.m r e₁ d))
        where
          go : (b : Answer Vector) → a ≡ as_vector (mapped (λ x. innovation m n Y.h x z) b) → (s, (g, y)) ≡ of b
          go (Err k) c = let is = same-refusal (sym q ∙ c) in λ t. ((told ∙ λ t. Err (is t)) t, (left t, y))
          go (Ok x') c = absurd (differ (sym q ∙ c))
