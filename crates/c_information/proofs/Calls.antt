-- What is read of a slice's filter and what is put into it, as the information that it keeps; and what is written of an answer into all of a slice. Assumes nothing.
use mathlib.Core.Path.{◌≡◌, refl, sym, ap, subst, ◌∙◌}
use mathlib.Core.List.{List, [], ◌∷◌, ◌++◌}
use mathlib.Core.Bool.{Bool, true}
use Prim.Native.Nat.{ℕ, ◌*◌}
use native.Mathlib.Omega.{arith}
use lib.ListN.{length}
use lib.Ieee.{Float}
use Rattle.std.specs.Prelude.{Ok, Err}
use Rattle.answer.specs.declared.Refusal.{Refusal}
use Rattle.answer.specs.Answer.{Answer, mapped}
use Rattle.answer.specs.Outcome.{Outcome, into, if_fitting, handed}
use Rattle.answer.specs.Told.{written}
use Rattle.answer.proofs.Answers.{differ, same_answer, same-refusal, mapped-refused}
use Rattle.algebra.specs.Matrix.{Vector, Matrix}
use Rattle.algebra.specs.Array.{cut, used, pad_row, pad}
use Rattle.algebra.proofs.Matrices.{Shape}
use Rattle.algebra.proofs.Arrays.{cut-pad_row, used-pad}
use Rattle.sizes.specs.declared.Size.{Size}
use Rattle.sizes.specs.Size.{count}
use Rattle.matrix.specs.Result.{as_matrix, as_vector}
use Rattle.filtering.specs.Filter.{estimate}
use Rattle.filtering.specs.Information.{Information, of_estimate}
use Rattle.layout.specs.Layout.{vector_in, matrix_in, matrix_at, joined, placed, put_at}
use Rattle.layout.proofs.Parts.{fits-total}
use Rattle.layout.proofs.Places.{placed-whole}
use Rattle.layout.proofs.Rows.{length-rows, whole-vector}
use Rattle.layout.proofs.Calls.{vector-used, matrix-used, matrix-put, vector-put}
use Rattle.steps.specs.Step.{Rows, estimate_rows}
use Rattle.information_steps.specs.Step.{information_rows, arrays_of}
use Rattle.information_steps.proofs.Ways.{Sized, made-sizes}
use Rattle.c_copies.specs.declared.Places.{Places}
use Rattle.c_copies.proofs.Filters.{Placed, Given, parts-given}
use Rattle.c_copies.proofs.Steps.{estimate-read, put_back}
use Rattle.c_information.specs.Information.{information_at, with_information, stepped_in, of_estimate_at}

-- the slice f with Ω x and Ω of the arrays v and w put where P says
abbrev pub kept : Places → List Float → List Float → Rows → List Float
kept P f v w = put_at P.x (cut (count P.n) v ++ joined (used (count P.n) (count P.n) w)) f

-- ---- f is the slice, and P its places
module _ {n m i : ℕ} (f : List Float) {P : Places} (A : Placed (λ m. m) n m i (length f) P) where
  pub information-read : {w : Rows} {v : List Float} → v ≡ pad_row (vector_in (count P.n) f P.x) → w ≡ pad (matrix_in (count P.n) (count P.n) f P.p) → information_rows P.n w v ≡ information_at n m i f
  information-read ev ew = λ t. let e = estimate-read f A ev ew t in record { matrix = e.covariance; vector = e.state }

  pub put-information : (o : Information) {w : Rows} {v g : List Float} → Sized n o → (w, v) ≡ arrays_of o → g ≡ kept P f v w → g ≡ with_information n m i f o
  put-information o s d q = put_back f A {e = estimate o.vector o.matrix} (record { state = s.1; covariance = s.0 }) (λ t. (d t).1) (λ t. (d t).0) q

  -- the information of an estimate is put
  pub made : (x p : List Float) {w : Rows} {v g : List Float} → Ok (w, v) ≡ mapped arrays_of (of_estimate_at n x p) → g ≡ kept P f v w
      → Ok g ≡ mapped (with_information n m i f) (of_estimate_at n x p)
  made x p {w} {v} {g} e q = go (of_estimate_at n x p) (λ o d. made-sizes n (estimate x (matrix_at n n p 0)) d) e
    where
      go : (a : Answer Information) → ((o : Information) → a ≡ Ok o → Sized n o) → Ok (w, v) ≡ mapped arrays_of a → Ok g ≡ mapped (with_information n m i f) a
      go (Err j) l e = absurd (differ (sym e))
      go (Ok o) l e = ap Ok (put-information o (l o refl) (same_answer e) q)

-- what a step tells and leaves where its test is passed; and a step of an answer is that answer written
pub fitted-step : (n m i : ℕ) (f : List Float) (o : Outcome Information (Unit {0})) {t : Bool} {y : Answer (Unit {0}) × List Float} → t ≡ true → y ≡ stepped_in n m i f o
    → y ≡ stepped_in n m i f (if_fitting t o)
fitted-step n m i f o e p = p ∙ ap (λ (b : Bool). stepped_in n m i f (if_fitting b o)) (sym e)

pub written-stepped : (n m i : ℕ) (f : List Float) (a : Answer Information) → written f (mapped (with_information n m i f) a) ≡ stepped_in n m i f (into a)
written-stepped n m i f (Err j) = refl
written-stepped n m i f (Ok o) = refl

-- ---- an estimate that is given by its numbers, and what is written of an answer into all of a slice
module _ (N : Size) {n : ℕ} (is : count N ≡ n) where
  pub estimate-given : (x p : List Float) → length x ≡ n → length p ≡ n * n
      → of_estimate (count N) (estimate_rows N (pad_row (vector_in (count N) x 0)) (pad (matrix_in (count N) (count N) p 0))) ≡ of_estimate_at n x p
  estimate-given x p lx lp =
      λ t. of_estimate (is t) (estimate ((vector-used 0 x is (omega (arith, lx)) refl ∙ whole-vector n x lx) t) (matrix-used 0 p is is (omega (arith, lp)) refl t))

  pub vector-written : (a : Answer Vector) (y : List Float) {u y' : List Float} → Ok u ≡ as_vector a → ((x : Vector) → a ≡ Ok x → length x ≡ n) → length y ≡ n
      → y' ≡ put_at 0 (cut (count N) u) y → Ok y' ≡ a
  vector-written (Err j) y e l ly p = absurd (differ (sym e))
  vector-written (Ok x) y {u} e l ly p =
      ap Ok
      (vector-put 0 y u is (omega (arith, ly)) p
      ∙ ap (λ (b : Vector). placed 0 b y) (ap (cut n) (same_answer e) ∙ cut-pad_row n x (l x refl))
      ∙ placed-whole x y (l x refl ∙ sym ly))

  pub matrix-written : (a : Answer Matrix) (y : List Float) {rows : Rows} {y' : List Float} → Ok rows ≡ as_matrix a → ((A : Matrix) → a ≡ Ok A → Shape n n A) → length y ≡ n * n
      → y' ≡ put_at 0 (joined (used (count N) (count N) rows)) y → Ok y' ≡ mapped joined a
  matrix-written (Err j) y e l ly p = absurd (differ (sym e))
  matrix-written (Ok A) y {rows} e l ly p =
      ap Ok
      (matrix-put 0 y rows is is (omega (arith, ly)) p
      ∙ ap (λ (b : Matrix). placed 0 (joined b) y) (ap (used n n) (same_answer e) ∙ used-pad n n A (l A refl))
      ∙ placed-whole (joined A) y (length-rows n n A (l A refl) ∙ sym ly))

-- what a step of the answer a told and left in the place of y, by what h makes
pub answered-left : {A X : Type 0} (h : A → X) (y : X) (a : Answer A) {x : X} → (Ok tt, x) ≡ handed (λ t. t) h y (into a) → Ok x ≡ mapped h a
answered-left h y (Err j) e = absurd (differ (λ t. (sym e t).0))
answered-left h y (Ok o) e = λ t. Ok (e t).1

pub refused-left : {A X : Type 0} (h : A → X) (y : X) (a : Answer A) {x : X} {j : Refusal} → (Err j, x) ≡ handed (λ t. t) h y (into a) → Err j ≡ mapped h a
refused-left h y (Err j) e = ap Err (same-refusal (λ t. (e t).0))
refused-left h y (Ok o) e = absurd (differ (λ t. (e t).0))

-- a refusal, where h made what is told of the answer a, and G makes what is told and left
pub refused-as : {A B X : Type 0} (h : A → B) (G : Answer A → Answer (Unit {0}) × X) (a : Answer A) (y : X) {j : Refusal} {s : Answer (Unit {0})} → Err j ≡ mapped h a → s ≡ Err j
    → (Err j, y) ≡ G (Err j) → (s, y) ≡ G a
refused-as h G a y {j} e q p = (λ t. (q t, y)) ∙ p ∙ ap G (sym (mapped-refused h a j (sym e)))

-- ---- a filter of an estimate: f₁ has its parts, and f₂ the information in place of the estimate
module _ {n m i : ℕ} {a b h q r x p : List Float} (f : List Float) {P : Places} (g : Given (λ m. m) n m i (length f) P a b h q r x p) where
  abbrev parts : List Float
  parts = joined (a ∷ b ∷ h ∷ q ∷ r ∷ x ∷ p ∷ [])

  same_length : length parts ≡ length f
  same_length = fits-total (parts-given g) ∙ sym g.at.long

  pub new-made : {w : Rows} {v f₁ f₂ : List Float} → Ok (w, v) ≡ mapped arrays_of (of_estimate_at n x p) → f₁ ≡ parts → f₂ ≡ kept P f₁ v w
      → Ok f₂ ≡ mapped (with_information n m i parts) (of_estimate_at n x p)
  new-made {w} {v} e e₁ e₂ =
      made parts (subst (λ (k : ℕ). Placed (λ m. m) n m i k P) (sym same_length) g.at) x p e (e₂ ∙ λ t. kept P (e₁ t) v w)
