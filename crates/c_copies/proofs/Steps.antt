-- A step on the rows that were read from a slice is the step on the slice, and what is put back is what it leaves. Assumes nothing.
use mathlib.Core.Path.{◌≡◌, refl, sym, ap, ap₂, ◌∙◌}
use mathlib.Core.List.{List, ◌++◌}
use Prim.Native.Nat.{ℕ}
use native.Mathlib.Omega.{arith}
use lib.ListN.{length}
use lib.Ieee.{Float}
use Rattle.std.specs.Prelude.{Ok, Err}
use Rattle.answer.specs.declared.Refusal.{Refusal}
use Rattle.answer.specs.Answer.{Answer}
use Rattle.answer.proofs.Answers.{differ, same_answer, same-refusal}
use Rattle.answer.specs.Outcome.{Outcome, standing}
use Rattle.algebra.specs.Matrix.{Vector, Matrix}
use Rattle.algebra.specs.Array.{cut, used, pad_row, pad}
use Rattle.algebra.proofs.Matrices.{Shape}
use Rattle.algebra.proofs.Arrays.{cut-pad_row, used-pad}
use Rattle.sizes.specs.declared.Size.{Size}
use Rattle.sizes.specs.Size.{count}
use Rattle.filtering.specs.Filter.{Estimate, estimate, predicted_state, predicted_covariance}
use Rattle.filtering.specs.Linear.{predict, update}
use Rattle.filtering.proofs.Shapes.{Sized, Way, stopped, went, way, length-predicted_state, shape-propagated}
use Rattle.layout.specs.Layout.{vector_at, vector_in, matrix_in, joined, placed, put_at, part_at}
use Rattle.layout.proofs.Places.{placed-whole}
use Rattle.layout.proofs.Rows.{whole-vector}
use Rattle.layout.proofs.Calls.{vector-used, part-read, pair_put, vector-put}
use Rattle.steps.specs.Step.{Rows, motion_rows, sensor_rows, estimate_rows, left_rows, updated_rows}
use Rattle.c_copies.specs.declared.Places.{Places}
use Rattle.c_copies.specs.Filter.{filter_parts_by, state_place_by, motion_by, motion_at, sensor_at, estimate_at, with_estimate, outcome_in}
use Rattle.c_copies.proofs.Filters.{Placed}

-- the j numbers of u, which a call gives beside the filter
pub vector-given : {j : ℕ} (J : Size) (u : List Float) {v : List Float} → count J ≡ j → length u ≡ j → v ≡ pad_row (vector_in (count J) u 0) → cut (count J) v ≡ u
vector-given {j} J u d l e = vector-used 0 u d (omega (arith, l)) e ∙ whole-vector j u l

-- ---- f is the slice, and P its places, for any noise
module _ {w : ℕ → ℕ} {n m i : ℕ} (f : List Float) {P : Places} (A : Placed w n m i (length f) P) where
  -- what is read
  pub motion-read : {a b q : Rows} → a ≡ pad (matrix_in (count P.n) (count P.n) f 0) → b ≡ pad (matrix_in (count P.n) (count P.i) f P.b)
      → q ≡ pad (matrix_in (count P.n) (count P.n) f P.q) → motion_rows P.n P.i a b q ≡ motion_by w n m i f
  motion-read ea eb eq =
      let L = filter_parts_by w n m i in
      λ t. record {
        n = A.states t;
        i = A.inputs t;
        a = part-read L f 0 (omega arith) (omega arith) A.states A.states refl ea t;
        b = part-read L f 1 (omega arith) (omega arith) A.states A.inputs A.b eb t;
        q = part-read L f 3 (omega arith) (omega arith) A.states A.states A.q eq t;
      }

  pub measuring-read : {h : Rows} → h ≡ pad (matrix_in (count P.m) (count P.n) f P.h) → used (count P.m) (count P.n) h ≡ part_at (filter_parts_by w n m i) f 2
  measuring-read eh = part-read (filter_parts_by w n m i) f 2 (omega arith) (omega arith) A.measurements A.states A.h eh

  pub state-read : {x : List Float} → x ≡ pad_row (vector_in (count P.n) f P.x) → cut (count P.n) x ≡ vector_at n f (state_place_by w n m i)
  state-read ex = vector-used P.x f A.states (omega arith) ex ∙ ap (vector_at n f) A.x

  pub square-read : {p : Rows} → p ≡ pad (matrix_in (count P.n) (count P.n) f P.p) → used (count P.n) (count P.n) p ≡ part_at (filter_parts_by w n m i) f 6
  square-read ep = part-read (filter_parts_by w n m i) f 6 (omega arith) (omega arith) A.states A.states A.p ep

  -- a state v and the part B behind it are put back
  pub put_pair_back : (v : Vector) (B : Matrix) {x : List Float} {p : Rows} {g : List Float} → length v ≡ n → Shape n n B → x ≡ pad_row v → p ≡ pad B
      → g ≡ put_at P.x (cut (count P.n) x ++ joined (used (count P.n) (count P.n) p)) f → g ≡ placed (state_place_by w n m i) (v ++ joined B) f
  put_pair_back v B {x} {p} l s ex ep q =
      pair_put P.x f x p A.states (omega arith) q
      ∙ ap₂ (λ (v : Vector) (B : Matrix). placed P.x (v ++ joined B) f) (ap (cut n) ex ∙ cut-pad_row n v l) (ap (used n n) ep ∙ used-pad n n B s)
      ∙ ap (λ (j : ℕ). placed j (v ++ joined B) f) A.x

-- ---- the linear filter, whose noise is a matrix
module _ {n m i : ℕ} (f : List Float) {P : Places} (A : Placed (λ m. m) n m i (length f) P) where
  pub sensor-read : {h r : Rows} → h ≡ pad (matrix_in (count P.m) (count P.n) f P.h) → r ≡ pad (matrix_in (count P.m) (count P.m) f P.r)
      → sensor_rows P.n P.m h r ≡ sensor_at n m i f
  sensor-read eh er =
      λ t. record {
        n = A.states t;
        m = A.measurements t;
        h = measuring-read f A eh t;
        r = part-read (filter_parts_by (λ m. m) n m i) f 4 (omega arith) (omega arith) A.measurements A.measurements A.r er t;
      }

  pub estimate-read : {x : List Float} {p : Rows} → x ≡ pad_row (vector_in (count P.n) f P.x) → p ≡ pad (matrix_in (count P.n) (count P.n) f P.p) → estimate_rows P.n x p ≡ estimate_at n m i f
  estimate-read ex ep = λ t. estimate (state-read f A ex t) (square-read f A ep t)

  -- an estimate is put back
  pub put_back : {e : Estimate} {x : List Float} {p : Rows} {g : List Float} → Sized n e → x ≡ pad_row e.state → p ≡ pad e.covariance
      → g ≡ put_at P.x (cut (count P.n) x ++ joined (used (count P.n) (count P.n) p)) f → g ≡ with_estimate n m i f e
  put_back {e} s ex ep q = put_pair_back f A e.state e.covariance s.state s.covariance ex ep q

  pub predicts : (u : List Float) {a b q p p' : Rows} {v x x' g : List Float} → length u ≡ i
      → a ≡ pad (matrix_in (count P.n) (count P.n) f 0)
      → b ≡ pad (matrix_in (count P.n) (count P.i) f P.b)
      → q ≡ pad (matrix_in (count P.n) (count P.n) f P.q)
      → v ≡ pad_row (vector_in (count P.i) u 0)
      → x ≡ pad_row (vector_in (count P.n) f P.x)
      → p ≡ pad (matrix_in (count P.n) (count P.n) f P.p)
      → (x', p') ≡ left_rows x p (predict (motion_rows P.n P.i a b q) (cut (count P.i) v) (estimate_rows P.n x p))
      → g ≡ put_at P.x (cut (count P.n) x' ++ joined (used (count P.n) (count P.n) p')) f
      → g ≡ standing (with_estimate n m i f) f (predict (motion_at n m i f) u (estimate_at n m i f)).left
  unfolding predict
  predicts u {a} {b} {q} {p} {p'} {v} {x} {x'} l ea eb eq ev ex ep s r =
      let both = s ∙ (λ t. left_rows x p (predict (motion-read f A ea eb eq t) (vector-given P.i u A.inputs l ev t) (estimate-read ex ep t))) in
      put_back {e = estimate (predicted_state (motion_at n m i f) u (estimate_at n m i f).state) (predicted_covariance (motion_at n m i f) (estimate_at n m i f).covariance)}
      (record { state = length-predicted_state (motion_at n m i f) u (estimate_at n m i f).state; covariance = shape-propagated n n (motion_at n m i f).a (estimate_at n m i f).covariance (motion_at n m i f).q }) (λ t. (both t).0) (λ t. (both t).1) r

  -- ---- an update: o is its outcome, and y held the innovation's place
  module _ (z : List Float) (l : length z ≡ m) {h r p p' : Rows} {w x x' : List Float} {v : Answer (List Float)}
      (eh : h ≡ pad (matrix_in (count P.m) (count P.n) f P.h))
      (er : r ≡ pad (matrix_in (count P.m) (count P.m) f P.r))
      (ew : w ≡ pad_row (vector_in (count P.m) z 0))
      (ex : x ≡ pad_row (vector_in (count P.n) f P.x))
      (ep : p ≡ pad (matrix_in (count P.n) (count P.n) f P.p))
      (s : (v, (x', p')) ≡ updated_rows x p (update (sensor_rows P.n P.m h r) (cut (count P.m) w) (estimate_rows P.n x p))) where
    abbrev pub outcome : Outcome Estimate Vector
    outcome = update (sensor_at n m i f) z (estimate_at n m i f)

    same : (v, (x', p')) ≡ updated_rows x p outcome
    same = s ∙ (λ t. updated_rows x p (update (sensor-read eh er t) (vector-given P.m z A.measurements l ew t) (estimate-read ex ep t)))

    pub updates : (y : List Float) {u g y' : List Float} → length y ≡ m → v ≡ Ok u → g ≡ put_at P.x (cut (count P.n) x' ++ joined (used (count P.n) (count P.n) p')) f
        → y' ≡ put_at 0 (cut (count P.m) u) y → (Ok tt, (g, y')) ≡ outcome_in n m i f y outcome
    updates y {u} {g} {y'} ly d eg ey = go outcome (way _ _ _) same
      where
        go : (o : Outcome Estimate Vector) → Way n m o → (v, (x', p')) ≡ updated_rows x p o → (Ok tt, (g, y')) ≡ outcome_in n m i f y o
        go o (stopped j) e = absurd (differ ((λ t. (sym e t).0) ∙ d))
        go o (went c b lc sb) e =
            let there : y' ≡ c =
            vector-put 0 y u A.measurements (omega (arith, ly)) ey
            ∙ ap (λ (q : Vector). placed 0 q y) (ap (cut m) (same_answer (sym d ∙ λ t. (e t).0)) ∙ cut-pad_row m c lc)
            ∙ placed-whole c y (lc ∙ sym ly) in
            λ t. (Ok tt, (put_back sb (λ t. (e t).1.0) (λ t. (e t).1.1) eg t, there t))

    pub refuses : (y : List Float) {j : Refusal} → v ≡ Err j → (Err j, (f, y)) ≡ outcome_in n m i f y outcome
    refuses y {j} d = go outcome (way _ _ _) same
      where
        go : (o : Outcome Estimate Vector) → Way n m o → (v, (x', p')) ≡ updated_rows x p o → (Err j, (f, y)) ≡ outcome_in n m i f y o
        go o (stopped q) e = let told : j ≡ q = same-refusal (sym d ∙ λ t. (e t).0) in λ t. (Err (told t), (f, y))
        go o (went c b lc sb) e = absurd (differ (sym d ∙ λ t. (e t).0))
