-- A filter set from an estimate whose covariance was read from a slice, by what Cholesky answers; and its covariance. Assumes nothing.
use mathlib.Core.Path.{◌≡◌, refl, sym, ap, ap₂, ◌∙◌}
use mathlib.Core.Bool.{Bool, true}
use mathlib.Core.List.{List, [], ◌++◌}
use Prim.Native.Nat.{ℕ, ◌+◌, ◌*◌, ◌≤◌}
use native.Mathlib.Omega.{arith}
use lib.ListN.{length}
use lib.Ieee.{Float}
use Rattle.std.specs.Prelude.{Ok, Err}
use Rattle.answer.specs.declared.Refusal.{Refusal}
use Rattle.answer.specs.Answer.{Answer, mapped, where_sized, if_sized}
use Rattle.answer.specs.Outcome.{into}
use Rattle.answer.specs.Told.{written}
use Rattle.answer.proofs.Answers.{differ, same_answer}
use Rattle.algebra.specs.Matrix.{Vector, Matrix, transpose}
use Rattle.algebra.specs.Array.{cut, used, pad_row, pad}
use Rattle.algebra.specs.Cholesky.{cholesky}
use Rattle.algebra.proofs.Matrices.{Shape, shape-mul}
use Rattle.algebra.proofs.Arrays.{used-pad}
use Rattle.algebra.proofs.Factors.{shape-cholesky}
use Rattle.sizes.specs.declared.Size.{Size}
use Rattle.sizes.specs.Size.{count}
use Rattle.matrix.specs.Result.{as_matrix}
use Rattle.filtering.specs.Filter.{estimate}
use Rattle.filtering.specs.SquareRoot.{factored, of_estimate, covariance}
use Rattle.layout.specs.Layout.{matrix_at, vector_in, matrix_in, joined, placed, put_at}
use Rattle.layout.proofs.Places.{placed-whole}
use Rattle.layout.proofs.Rows.{whole-vector, length-rows}
use Rattle.layout.proofs.Calls.{few, vector-used, matrix-used, slice-put, pair_put}
use Rattle.steps.specs.Step.{Rows}
use Rattle.sqrt_steps.specs.Step.{factored_rows}
use Rattle.c_copies.specs.declared.Places.{Places}
use Rattle.c_copies.proofs.Filters.{Placed}
use Rattle.c_copies.proofs.Steps.{square-read}
use Rattle.c_sqrt_kalman.specs.Root.{state_place, is_parts, factored_at, stepped_in, numbers_of, from_cholesky_in}

-- the factor in the rows l, where Cholesky's result w has them
pub found : {w : Answer Rows} {l : Rows} (o : Answer Matrix) → w ≡ as_matrix o → w ≡ Ok l → (L : Matrix) × (o ≡ Ok L) × (l ≡ pad L)
found (Ok L) e q = (L, refl, same_answer (sym q ∙ e))
found (Err j) e q = absurd (differ (sym e ∙ q))

-- n rows of n numbers are at most sixteen
pub square-few : {w : ℕ → ℕ} {n m i k : ℕ} {P : Places} → Placed w n m i k P → P.square ≤ 16
square-few {P = P} A = omega (arith, A.square, few P.n P.n (sym A.states) (sym A.states))

-- rows of n numbers, put into all of o
put_whole : {n : ℕ} (N : Size) {l : Rows} (A : Matrix) (o : List Float) {o₁ : List Float} → count N ≡ n → Shape n n A → l ≡ pad A → length o ≡ n * n
    → o₁ ≡ put_at 0 (joined (used (count N) (count N) l)) o → o₁ ≡ joined A
put_whole {n} N {l} A o is_n s el lo q =
    let isA : used (count N) (count N) l ≡ A = (λ t. used (is_n t) (is_n t) l) ∙ ap (used n n) el ∙ used-pad n n A s in
    let long = length-rows n n A s in
    slice-put 0 o (joined A) (omega (arith, long, lo)) (q ∙ ap (λ (A : Matrix). put_at 0 (joined A) o) isA) ∙ placed-whole (joined A) o (long ∙ sym lo)

-- p0 is the slice of the covariance, p the rows that were read from it, and N the size as the code has it
module _ (n : ℕ) (x0 p0 : List Float) (lp : length p0 ≡ n * n) (N : Size) (is_n : count N ≡ n) {p : Rows} (ep : p ≡ pad (matrix_in (count N) (count N) p0 0)) where
  read : {a : Answer Matrix} → cholesky (count N) (used (count N) (count N) p) ≡ a → cholesky n (matrix_at n n p0 0) ≡ a
  read q = (λ t. cholesky (sym is_n t) (sym (matrix-used 0 p0 is_n is_n (omega (arith, lp)) ep) t)) ∙ q

  shape : {L : Matrix} → cholesky (count N) (used (count N) (count N) p) ≡ Ok L → Shape n n L
  shape {L} q = shape-cholesky n (matrix_at n n p0 0) L (read q)

  -- ---- `reset`: f is the slice, and b the test of the sizes
  module _ (m i : ℕ) (f : List Float) {b : Bool} (h : b ≡ true) where
    abbrev of : Answer Matrix → Answer (Unit {0}) × List Float
    of a = stepped_in n m i f (into (mapped (factored x0) a))

    abbrev whole : Bool → Answer (Unit {0}) × List Float
    whole c = stepped_in n m i f (into (if_sized c (of_estimate n (estimate x0 (matrix_at n n p0 0)))))

    pub reset_done : {L : Matrix} {k : ℕ} {x g : List Float} {l : Rows} → cholesky (count N) (used (count N) (count N) p) ≡ Ok L → length x0 ≡ n → k ≡ state_place n m i → k + (n + n * n) ≤ length f
        → x ≡ pad_row (vector_in (count N) x0 0) → l ≡ pad L → g ≡ put_at k (cut (count N) x ++ joined (used (count N) (count N) l)) f → (Ok tt, g) ≡ whole b
    unfolding of_estimate
    reset_done {L} {k} {x} {g} {l} q lx ek room ex el eg =
        let isX : cut n x ≡ x0 = (λ t. cut (sym is_n t) x) ∙ vector-used 0 x0 is_n (omega (arith, lx)) ex ∙ whole-vector n x0 lx in
        let isG : g ≡ placed (state_place n m i) (x0 ++ joined L) f =
        pair_put k f x l is_n room eg
        ∙ ap₂ (λ (v : Vector) (A : Matrix). placed k (v ++ joined A) f) isX (ap (used n n) el ∙ used-pad n n L (shape q))
        ∙ ap (λ (j : ℕ). placed j (x0 ++ joined L) f) ek in
        (λ t. (Ok tt, isG t)) ∙ sym (ap of (read q)) ∙ λ t. whole (sym h t)

    pub reset_refused : {j : Refusal} → cholesky (count N) (used (count N) (count N) p) ≡ Err j → (Err j, f) ≡ whole b
    unfolding of_estimate
    reset_refused q = sym (ap of (read q)) ∙ λ t. whole (sym h t)

  -- ---- `new`: the parts a to x0 for a slice of k numbers, f what the slice held, and the test of the parts
  module _ (m i k : ℕ) (a b h q r f : List Float) (e : is_parts n m i k (length a) (length b) (length h) (length q) (length r) (length x0) (length p0) ≡ true) where
    abbrev by : Answer Matrix → Answer (Unit {0}) × List Float
    by o = written f (mapped (λ z. numbers_of a b h q r z.state (joined z.factor)) (mapped (factored x0) o))

    abbrev all : Bool → Answer (Unit {0}) × List Float
    all d = written f (if_sized d (mapped (λ z. numbers_of a b h q r z.state (joined z.factor)) (of_estimate n (estimate x0 (matrix_at n n p0 0)))))

    -- s is the factor by rows, laid into o
    pub new-done : {L : Matrix} {l : Rows} (o : List Float) {s : List Float} {y : Answer (Unit {0}) × List Float} → cholesky (count N) (used (count N) (count N) p) ≡ Ok L → l ≡ pad L
        → length o ≡ n * n → s ≡ put_at 0 (joined (used (count N) (count N) l)) o → y ≡ written f (from_cholesky_in n m i k a b h q r x0 s)
        → y ≡ all (is_parts n m i k (length a) (length b) (length h) (length q) (length r) (length x0) (length p0))
    unfolding of_estimate
    new-done {L} o {s} c el lo es ey =
        let sh = shape c in
        let isS : s ≡ joined L = put_whole N L o is_n sh el lo es in
        let long : length s ≡ length p0 = ap length isS ∙ length-rows n n L sh ∙ sym lp in
        ey
        ∙ (λ t. written f (where_sized (is_parts n m i k (length a) (length b) (length h) (length q) (length r) (length x0) (long t)) (numbers_of a b h q r x0 (isS t))))
        ∙ (λ t. written f (where_sized (e t) (numbers_of a b h q r x0 (joined L))))
        ∙ sym (ap by (read c)) ∙ λ t. all (sym e t)

    pub new-refused : {j : Refusal} → cholesky (count N) (used (count N) (count N) p) ≡ Err j → (Err j, f) ≡ all (is_parts n m i k (length a) (length b) (length h) (length q) (length r) (length x0) (length p0))
    unfolding of_estimate
    new-refused o = sym (ap by (read o)) ∙ λ t. all (sym e t)

-- ---- the covariance of the filter in f, put into all of o
pub covers : {n m i : ℕ} (f : List Float) {P : Places} (A : Placed (λ m. 1) n m i (length f) P) {l p : Rows} → l ≡ pad (matrix_in (count P.n) (count P.n) f P.p)
    → p ≡ pad (covariance (count P.n) (factored_rows P.n [] l)) → (o : List Float) {o₁ : List Float} → length o ≡ n * n → o₁ ≡ put_at 0 (joined (used (count P.n) (count P.n) p)) o
    → o₁ ≡ joined (covariance n (factored_at n m i f))
unfolding covariance
covers {n} {m} {i} f {P} A {l} {p} el ep o lo q =
    let g = factored_at n m i f in
    put_whole P.n (covariance n g) o A.states (shape-mul n n n g.factor (transpose n n g.factor))
    (ep ∙ λ t. pad (covariance (A.states t) (factored g.state (square-read f A el t)))) lo q
