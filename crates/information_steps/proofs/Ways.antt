-- The ways out of the information filter's steps, by what the inversions answer. Assumes nothing.
use mathlib.Core.Path.{◌≡◌, refl, sym, ap, subst, ◌∙◌}
use mathlib.Core.List.{List}
use Prim.Native.Nat.{ℕ}
use lib.ListN.{length}
use lib.Ieee.{Float}
use Rattle.std.specs.Prelude.{Ok, Err}
use Rattle.answer.specs.declared.Refusal.{Refusal}
use Rattle.answer.specs.Answer.{Answer, and_then, mapped}
use Rattle.answer.specs.Outcome.{Outcome, unchanged, this, done, into, handed, ◌else_leave◌then◌}
use Rattle.answer.proofs.Answers.{differ, same_answer, same-refusal}
use Rattle.algebra.specs.Matrix.{Vector, Matrix, matvec, mul, transpose}
use Rattle.algebra.specs.Array.{pad_row, pad}
use Rattle.algebra.specs.Inverse.{inv}
use Rattle.algebra.proofs.Matrices.{Shape, shape-add}
use Rattle.algebra.proofs.Vectors.{length-vec_add, length-matvec}
use Rattle.algebra.proofs.Arrays.{used-pad, cut-pad_row}
use Rattle.algebra.proofs.Inverses.{inv-shape}
use Rattle.sizes.specs.declared.Size.{Size}
use Rattle.sizes.specs.Size.{count, front, part}
use Rattle.matrix.specs.Result.{as_matrix, as_vector}
use Rattle.matrix.proofs.Results.{was_answered, was_refused}
use Rattle.filtering.specs.Filter.{Motion, Sensor, Estimate, estimate, predicted_state, predicted_covariance, innovation}
use Rattle.filtering.specs.Information.{Information, information, of_estimate, covariance, state, predict, informed, update}
use Rattle.filtering.proofs.Shapes.{shape-propagated, length-predicted_state}
use Rattle.steps.specs.Step.{Rows, motion_rows, estimate_rows}
use Rattle.information_steps.specs.Step.{information_rows, arrays_of, update_by}

-- ---- what stands in arrays is read back from them
pub information-back : (n : Size) (o : Information) {w : Rows} {v : List Float} → Shape (count n) (count n) o.matrix → length o.vector ≡ count n → (w, v) ≡ arrays_of o
    → information_rows n w v ≡ o
information-back n o s l e =
    (λ t. information_rows n (e t).0 (e t).1)
    ∙ λ t. record { matrix = used-pad (count n) (count n) o.matrix s t; vector = cut-pad_row (count n) o.vector l t }

pub estimate-back : (n : Size) (e : Estimate) {x : List Float} {p : Rows} → length e.state ≡ count n → Shape (count n) (count n) e.covariance → x ≡ pad_row e.state → p ≡ pad e.covariance
    → estimate_rows n x p ≡ e
estimate-back n e l s d q =
    (λ t. estimate_rows n (d t) (q t))
    ∙ λ t. estimate (cut-pad_row (count n) e.state l t) (used-pad (count n) (count n) e.covariance s t)

-- ---- the inverse w of the rows a, as the code has it
module _ (n : Size) (a : Rows) {w : Answer Rows} (e : w ≡ as_matrix (inv (count n) (part n n a))) where
  pub inverted : {rows : Rows} → w ≡ Ok rows → inv (count n) (part n n a) ≡ Ok (part n n rows)
  inverted s = was_answered (inv (count n) (part n n a)) (inv-shape (count n) (part n n a)) e s

  pub rejected : {k : Refusal} → w ≡ Err k → inv (count n) (part n n a) ≡ Err k
  rejected s = was_refused (inv (count n) (part n n a)) e s

-- ---- of an estimate: w is the inverted covariance, in rows
module _ (n : Size) (x : List Float) (p : Rows) {w : Answer Rows} (e : w ≡ as_matrix (inv (count n) (part n n p))) (a : Rows) (v : List Float) where
  abbrev of : Answer Matrix → Answer (Unit {0}) × (Rows × List Float)
  of o = handed (λ t. t) arrays_of (a, v) (into (mapped (λ W. information (count n) W (front n x)) o))

  pub made : {rows : Rows} {v' : List Float} → w ≡ Ok rows → v' ≡ pad_row (matvec (count n) (count n) (part n n rows) (front n x))
      → (Ok tt, (rows, v')) ≡ handed (λ t. t) arrays_of (a, v) (into (of_estimate (count n) (estimate_rows n x p)))
  unfolding of_estimate
  made {rows} {v'} s f = go (inv (count n) (part n n p)) (inv-shape (count n) (part n n p)) e
    where
      go : (o : Answer Matrix) → ((A : Matrix) → o ≡ Ok A → Shape (count n) (count n) A) → w ≡ as_matrix o → (Ok tt, (rows, v')) ≡ of o
      go (Err k) h d = absurd (differ (sym d ∙ s))
      go (Ok W) h d =
          let is : rows ≡ pad W = same_answer (sym s ∙ d) in
          let back : part n n rows ≡ W = ap (part n n) is ∙ used-pad (count n) (count n) W (h W refl) in
          λ t. (Ok tt, (is t, (f ∙ ap (λ (A : Matrix). pad_row (matvec (count n) (count n) A (front n x))) back) t))

  pub not_made : {k : Refusal} {r : Answer (Unit {0})} → w ≡ Err k → r ≡ Err k → (r, (a, v)) ≡ handed (λ t. t) arrays_of (a, v) (into (of_estimate (count n) (estimate_rows n x p)))
  unfolding of_estimate
  not_made s q = (λ t. (q t, (a, v))) ∙ sym (ap of (rejected n p e s))

-- what it leaves is of n states
abbrev pub Sized : ℕ → Information → Type 0
Sized n o = Shape n n o.matrix × (length o.vector ≡ n)

pub made-sizes : (n : ℕ) (e : Estimate) {o : Information} → of_estimate n e ≡ Ok o → Sized n o
unfolding of_estimate
made-sizes n e {o} q = go (inv n e.covariance) refl q
  where
    go : (a : Answer Matrix) → inv n e.covariance ≡ a → mapped (λ W. information n W e.state) a ≡ Ok o → Shape n n o.matrix × (length o.vector ≡ n)
    go (Err k) d q = absurd (differ q)
    go (Ok W) d q =
        subst (λ (o : Information). Shape n n o.matrix × (length o.vector ≡ n)) (same_answer q) (inv-shape n e.covariance W d, length-matvec n n W e.state)

-- ---- the state
module _ (n : Size) (a : Rows) (v : List Float) {w : Answer Rows} (e : w ≡ as_matrix (inv (count n) (part n n a))) where
  abbrev found : Answer Matrix → Answer (List Float)
  found o = as_vector (mapped (λ P. matvec (count n) (count n) P (front n v)) o)

  pub state-found : {rows : Rows} {x : List Float} → w ≡ Ok rows → x ≡ pad_row (matvec (count n) (count n) (part n n rows) (front n v))
      → Ok x ≡ as_vector (state (count n) (information_rows n a v))
  unfolding state covariance
  state-found s d = ap Ok d ∙ sym (ap found (inverted n a e s))

  pub no_state : {k : Refusal} {r : Answer (List Float)} → w ≡ Err k → r ≡ Err k → r ≡ as_vector (state (count n) (information_rows n a v))
  unfolding state covariance
  no_state s q = q ∙ sym (ap found (rejected n a e s))

pub length-state : (n : ℕ) (o : Information) {x : Vector} → state n o ≡ Ok x → length x ≡ n
unfolding state
length-state n o {x} q = go (covariance n o) q
  where
    go : (a : Answer Matrix) → mapped (λ P. matvec n n P o.vector) a ≡ Ok x → length x ≡ n
    go (Err k) q = absurd (differ q)
    go (Ok P) q = ap length (sym (same_answer q)) ∙ length-matvec n n P o.vector

-- ---- a prediction, where P is Ω inverted
module _ (M : Motion) (u : Vector) (o : Information) where
  abbrev of_covariance : Answer Matrix → Outcome Information (Unit {0})
  of_covariance a =
      a else_leave unchanged then λ P.
      inv M.n (predicted_covariance M P) else_leave unchanged then λ W.
      done tt (information M.n W (predicted_state M u (matvec M.n M.n P o.vector)))

  abbrev pub moved : Matrix → Estimate
  moved P = estimate (predicted_state M u (matvec M.n M.n P o.vector)) (predicted_covariance M P)

  pub predict-into : predict M u o ≡ into (and_then (inv M.n o.matrix) (λ P. of_estimate M.n (moved P)))
  unfolding predict covariance of_estimate
  predict-into = go (inv M.n o.matrix)
    where
      last : (P : Matrix) (a : Answer Matrix) → (a else_leave unchanged then λ W. done tt (information M.n W (moved P).state)) ≡ into (mapped (λ W. information M.n W (moved P).state) a)
      last P (Err k) = refl
      last P (Ok W) = refl

      go : (a : Answer Matrix) → of_covariance a ≡ into (and_then a (λ P. of_estimate M.n (moved P)))
      go (Err k) = refl
      go (Ok P) = last P (inv M.n (predicted_covariance M P))

  pub predict_by : {a : Answer Matrix} → inv M.n o.matrix ≡ a → predict M u o ≡ into (and_then a (λ P. of_estimate M.n (moved P)))
  predict_by q = predict-into ∙ ap (λ (a : Answer Matrix). into (and_then a (λ P. of_estimate M.n (moved P)))) q

-- ---- a step whose refusal changes nothing, and which else leaves information of n states
pub data Plain (n : ℕ) : Outcome Information (Unit {0}) → Type 0 where
  plain : (a : Answer Information) → ((o : Information) → a ≡ Ok o → Sized n o) → Plain n (into a)

pub plain-estimate : (n : ℕ) (e : Estimate) → Plain n (into (of_estimate n e))
plain-estimate n e = plain (of_estimate n e) (λ o q. made-sizes n e q)

pub plain-predict : (M : Motion) (u : Vector) (o : Information) → Plain M.n (predict M u o)
plain-predict M u o = subst (Plain M.n) (sym (predict-into M u o)) (plain (and_then (inv M.n o.matrix) (λ P. of_estimate M.n (moved M u o P))) (sizes (inv M.n o.matrix)))
  where
    sizes : (a : Answer Matrix) (l : Information) → and_then a (λ P. of_estimate M.n (moved M u o P)) ≡ Ok l → Sized M.n l
    sizes (Err k) l q = absurd (differ q)
    sizes (Ok P) l q = made-sizes M.n (moved M u o P) q

module _ (n i : Size) (a b q : Rows) (u : List Float) (w : Rows) (v : List Float) {r : Answer Rows} (e : r ≡ as_matrix (inv (count n) (part n n w))) where
  abbrev motion : Motion
  motion = motion_rows n i a b q

  abbrev start : Information
  start = information_rows n w v

  pub predicted : {rows p : Rows} {x y : List Float} {z : Answer (Unit {0}) × (Rows × List Float)} → r ≡ Ok rows
      → x ≡ pad_row (matvec (count n) (count n) (part n n rows) (front n v))
      → y ≡ pad_row (predicted_state motion (front i u) (front n x))
      → p ≡ pad (predicted_covariance motion (part n n rows))
      → z ≡ handed (λ t. t) arrays_of (w, v) (into (of_estimate (count n) (estimate_rows n y p)))
      → z ≡ handed (λ t. t) arrays_of (w, v) (predict motion (front i u) start)
  predicted {rows} {p} {x} {y} s ex ey ep g =
      let P = part n n rows in
      let X = matvec (count n) (count n) P (front n v) in
      let isX : front n x ≡ X = ap (front n) ex ∙ cut-pad_row (count n) X (length-matvec (count n) (count n) P (front n v)) in
      let isY : y ≡ pad_row (predicted_state motion (front i u) X) = ey ∙ ap (λ (t : Vector). pad_row (predicted_state motion (front i u) t)) isX in
      let is = estimate-back n (estimate (predicted_state motion (front i u) X) (predicted_covariance motion P)) (length-predicted_state motion (front i u) X) (shape-propagated (count n) (count n) (part n n a) P (part n n q)) isY ep in
      g ∙ (λ t. handed (λ t. t) arrays_of (w, v) (into (of_estimate (count n) (is t))))
      ∙ sym (ap (handed (λ t. t) arrays_of (w, v)) (predict_by motion (front i u) start (inverted n w e s)))

  pub not_predicted : {k : Refusal} {z : Answer (Unit {0})} → r ≡ Err k → z ≡ Err k → (z, (w, v)) ≡ handed (λ t. t) arrays_of (w, v) (predict motion (front i u) start)
  not_predicted s q = (λ t. (q t, (w, v))) ∙ sym (ap (handed (λ t. t) arrays_of (w, v)) (predict_by motion (front i u) start (rejected n w e s)))

-- ---- an addition, and the update by the inverted noise W
pub shape-informed : (n m : ℕ) (H W : Matrix) (z : Vector) (o : Information) → Shape n n (informed n m H W z o).matrix
unfolding informed
shape-informed n m H W z o = shape-add n n o.matrix (mul n m n (mul n m m (transpose m n H) W) H)

pub length-informed : (n m : ℕ) (H W : Matrix) (z : Vector) (o : Information) → length (informed n m H W z o).vector ≡ n
unfolding informed
length-informed n m H W z o = length-vec_add n o.vector (matvec n m (transpose m n H) (matvec m m W z))

-- the definition's update is this one, where R is inverted
module _ (Y : Sensor Matrix) (z : Vector) (o : Information) where
  abbrev by : Answer Matrix → Outcome Information Vector
  by a = a else_leave unchanged then update_by Y z o

  pub update_is : update Y z o ≡ by (inv Y.m Y.r)
  unfolding update
  update_is = go (inv Y.m Y.r)
    where
      told : (o' : Information) (a : Answer Vector) → (a else_leave (this o') then λ x. done (innovation Y.m Y.n Y.h x z) o') ≡ record { told = mapped (λ x. innovation Y.m Y.n Y.h x z) a; left = this o' }
      told o' (Err k) = refl
      told o' (Ok x) = refl

      go : (a : Answer Matrix) → (a else_leave unchanged then λ W. let o' = informed Y.n Y.m Y.h W z o in state Y.n o' else_leave (this o') then λ x. done (innovation Y.m Y.n Y.h x z) o') ≡ by a
      go (Err k) = refl
      go (Ok W) = told (informed Y.n Y.m Y.h W z o) (state Y.n (informed Y.n Y.m Y.h W z o))

-- what is told of the information o' that the addition made, which the arrays w and v hold
module _ (n m : Size) (h : Rows) (z : List Float) (o' : Information) {w : Rows} {v : List Float} (size : Shape (count n) (count n) o'.matrix) (long : length o'.vector ≡ count n) (is : (w, v) ≡ arrays_of o')
    {s : Answer (List Float)} (e : s ≡ as_vector (state (count n) (information_rows n w v))) where
  abbrev telling : Answer Vector → Answer Vector
  telling a = mapped (λ x. innovation (count m) (count n) (part m n h) x (front m z)) a

  after : s ≡ as_vector (state (count n) o')
  after = e ∙ λ t. as_vector (state (count n) (information-back n o' size long is t))

  pub told-after : {x y : List Float} → s ≡ Ok x → y ≡ pad_row (innovation (count m) (count n) (part m n h) (front n x) (front m z))
      → (Ok y, (w, v)) ≡ handed as_vector arrays_of (w, v) (record { told = telling (state (count n) o'); left = this o' })
  told-after {x} {y} d ey = go (state (count n) o') refl after
    where
      go : (a : Answer Vector) → state (count n) o' ≡ a → s ≡ as_vector a → ◌≡◌ {A = Answer (List Float) × (Rows × List Float)} (Ok y, (w, v)) (as_vector (telling a), arrays_of o')
      go (Err k) q f = absurd (differ (sym f ∙ d))
      go (Ok u) q f =
          let isX : front n x ≡ u = ap (front n) (same_answer (sym d ∙ f)) ∙ cut-pad_row (count n) u (length-state (count n) o' q) in
          λ t. (Ok ((ey ∙ ap (λ (u : Vector). pad_row (innovation (count m) (count n) (part m n h) u (front m z))) isX) t), is t)

  pub refused-after : {k : Refusal} {r : Answer (List Float)} → s ≡ Err k → r ≡ Err k → (r, (w, v)) ≡ handed as_vector arrays_of (w, v) (record { told = telling (state (count n) o'); left = this o' })
  refused-after {k} {r} d er = go (state (count n) o') after
    where
      go : (a : Answer Vector) → s ≡ as_vector a → ◌≡◌ {A = Answer (List Float) × (Rows × List Float)} (r, (w, v)) (as_vector (telling a), arrays_of o')
      go (Err j) f = let same : k ≡ j = same-refusal (sym d ∙ f) in λ t. ((er ∙ ap Err same) t, is t)
      go (Ok x) f = absurd (differ (sym d ∙ f))
