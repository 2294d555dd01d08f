-- At rounded binary64 the generic updates are the filtering crate's. Assumes nothing.
use mathlib.Core.Path.{◌≡◌, refl, ap, ◌∙◌}
use Prim.Native.Nat.{ℕ}
use Rattle.std.specs.Prelude.{Ok, Err}
use Rattle.answer.specs.Answer.{Answer, mapped}
use Rattle.answer.specs.Outcome.{Outcome, Left, unchanged, this, done, ◌else_leave◌then◌}
use Rattle.answer.proofs.Tables.{table_ext}
use Rattle.algebra.specs.Matrix as Matrix
use Rattle.algebra.specs.Inverse as Inverse
use Rattle.filtering.specs.Filter as Filter
use Rattle.filtering.specs.Linear as Linear
use Rattle.filtering.specs.Information as Information
use Rattle.textbook.specs.Arithmetic.{rounded}
use Rattle.textbook.specs.Matrices as M
use Rattle.textbook.specs.Elimination as E
use Rattle.textbook.specs.Linear as Li
use Rattle.textbook.specs.Information as In
use Rattle.textbook.specs.Textbook.{estimated, informed, left_as, outcome_as}
use Rattle.textbook.proofs.Cells as Cells
use Rattle.textbook.proofs.Rounded.{sum_is, inv_is}

-- ---- products
mul_is : (r k c : ℕ) (A B : Matrix.Matrix) → M.mul rounded r k c A B ≡ Matrix.mul r k c A B
unfolding M.mul Matrix.mul
mul_is r k c A B =
    Cells.mat_ext rounded r c (λ i j. M.sum_of rounded k (λ t. rounded.times (Matrix.cell A i t) (Matrix.cell B t j)))
    (λ i j. Matrix.sum_of k (λ t. rounded.times (Matrix.cell A i t) (Matrix.cell B t j)))
    (λ i j hi hj. sum_is k (λ t. rounded.times (Matrix.cell A i t) (Matrix.cell B t j)))

matvec_is : (r c : ℕ) (A : Matrix.Matrix) (v : Matrix.Vector) → M.matvec rounded r c A v ≡ Matrix.matvec r c A v
unfolding M.matvec Matrix.matvec
matvec_is r c A v =
    table_ext r (λ i. M.sum_of rounded c (λ j. rounded.times (Matrix.cell A i j) (Matrix.at v j)))
    (λ i. Matrix.sum_of c (λ j. rounded.times (Matrix.cell A i j) (Matrix.at v j)))
    (λ i hi. sum_is c (λ j. rounded.times (Matrix.cell A i j) (Matrix.at v j)))

-- ---- the linear filter
covariance_is : (m n : ℕ) (H P R : Matrix.Matrix) → Li.propagated rounded m n H P R ≡ Filter.propagated m n H P R
unfolding Li.propagated Filter.propagated M.add Matrix.add M.transpose Matrix.transpose
covariance_is m n H P R =
    ap (λ (Z : Matrix.Matrix). Matrix.add m m Z R)
    (mul_is m n m (M.mul rounded m n n H P) (Matrix.transpose m n H)
    ∙ ap (λ (Z : Matrix.Matrix). Matrix.mul m n m Z (Matrix.transpose m n H)) (mul_is m n n H P))

innovation_is : (n m : ℕ) (H : Matrix.Matrix) (x z : Matrix.Vector) → Li.innovation rounded n m H x z ≡ Filter.innovation m n H x z
unfolding Li.innovation Filter.innovation M.vec_sub Matrix.vec_sub
innovation_is n m H x z = ap (Matrix.vec_sub m z) (matvec_is m n H x)

gain_is : (n m : ℕ) (P H W : Matrix.Matrix) → Li.gain rounded n m P H W ≡ Filter.gain n m P H W
unfolding Li.gain Filter.gain M.transpose Matrix.transpose
gain_is n m P H W =
    mul_is n m m (M.mul rounded n n m P (Matrix.transpose m n H)) W
    ∙ ap (λ (Z : Matrix.Matrix). Matrix.mul n m m Z W) (mul_is n n m P (Matrix.transpose m n H))

state_is : (n m : ℕ) (K : Matrix.Matrix) (y x : Matrix.Vector) → Li.corrected_state rounded n m K y x ≡ Filter.corrected_state n m K y x
unfolding Li.corrected_state Filter.corrected_state M.vec_add Matrix.vec_add
state_is n m K y x = ap (Matrix.vec_add n x) (matvec_is n m K y)

corrected_is : (n m : ℕ) (K H P : Matrix.Matrix) → Li.corrected_covariance rounded n m K H P ≡ Filter.corrected_covariance n m K H P
unfolding Li.corrected_covariance Filter.corrected_covariance M.sub Matrix.sub M.identity Matrix.identity
corrected_is n m K H P =
    mul_is n n n (Matrix.sub n n (Matrix.identity n) (M.mul rounded n m n K H)) P
    ∙ ap (λ (Z : Matrix.Matrix). Matrix.mul n n n (Matrix.sub n n (Matrix.identity n) Z) P) (mul_is n m n K H)

-- a step that goes on with an answer, and one that goes on alike with the same answer
alike : {A S T R : Type 0} (f : S → T) (a b : Answer A) (l : Left S) (g : A → Outcome S R) (h : A → Outcome T R)
    → a ≡ b → ((x : A) → outcome_as f (g x) ≡ h x) → outcome_as f (a else_leave l then g) ≡ (b else_leave (left_as f l) then h)
alike {A} {S} {T} {R} f a b l g h p e = by a ∙ ap (λ (o : Answer A). o else_leave (left_as f l) then h) p
  where
    by : (o : Answer A) → outcome_as f (o else_leave l then g) ≡ (o else_leave (left_as f l) then h)
    by (Err k) = refl
    by (Ok x) = e x

module _ (M' : Filter.Motion) (u : Matrix.Vector) where
  predicted_is : (x : Matrix.Vector) → Li.predicted_state rounded M'.n M'.i M'.a M'.b u x ≡ Filter.predicted_state M' u x
  unfolding Li.predicted_state Filter.predicted_state M.vec_add Matrix.vec_add
  predicted_is x = λ t. Matrix.vec_add M'.n (matvec_is M'.n M'.n M'.a x t) (matvec_is M'.n M'.i M'.b u t)

  pub linear-predict_is : (e : Li.Estimate rounded)
      → outcome_as estimated (Li.predict rounded M'.n M'.i M'.a M'.b M'.q u e) ≡ Linear.predict M' u (estimated e)
  unfolding Li.predict Li.predicted Linear.predict
  linear-predict_is e = λ t. done tt (Filter.estimate (predicted_is e.state t) (covariance_is M'.n M'.n M'.a e.covariance M'.q t))

  pub information-predict_is : (o : In.Information rounded)
      → outcome_as informed (In.predict rounded M'.n M'.i M'.a M'.b M'.q u o) ≡ Information.predict M' u (informed o)
  unfolding In.predict Information.predict In.covariance Information.covariance
  information-predict_is o =
      alike informed (E.inv rounded n o.matrix) (Inverse.inv n o.matrix) unchanged
      (λ P. E.inv rounded n (Li.propagated rounded n n M'.a P M'.q) else_leave unchanged then λ W. done tt (left P W))
      (λ P. Inverse.inv n (Filter.propagated n n M'.a P M'.q) else_leave unchanged then λ W. done tt (left' P W))
      (inv_is n o.matrix)
      (λ P.
      alike informed (E.inv rounded n (Li.propagated rounded n n M'.a P M'.q)) (Inverse.inv n (Filter.propagated n n M'.a P M'.q)) unchanged
      (λ W. done tt (left P W)) (λ W. done tt (left' P W))
      (inv_is n (Li.propagated rounded n n M'.a P M'.q) ∙ ap (Inverse.inv n) (covariance_is n n M'.a P M'.q))
      (λ W. λ t. done tt (record { matrix = W; vector = vector P W t })))
    where
      n : ℕ
      n = M'.n

      left : Matrix.Matrix → Matrix.Matrix → In.Information rounded
      left P W = In.information rounded n W (Li.predicted_state rounded n M'.i M'.a M'.b u (M.matvec rounded n n P o.vector))

      left' : Matrix.Matrix → Matrix.Matrix → Information.Information
      left' P W = Information.information n W (Filter.predicted_state M' u (Matrix.matvec n n P o.vector))

      vector : (P W : Matrix.Matrix) → (left P W).vector ≡ (left' P W).vector
      vector P W =
          matvec_is n n W (Li.predicted_state rounded n M'.i M'.a M'.b u (M.matvec rounded n n P o.vector))
          ∙ ap (Matrix.matvec n n W)
          (predicted_is (M.matvec rounded n n P o.vector) ∙ ap (Filter.predicted_state M' u) (matvec_is n n P o.vector))

-- ---- what the information filter starts from and answers
module _ (n : ℕ) where
  pub start_is : (e : Li.Estimate rounded) → mapped informed (In.of_estimate rounded n e) ≡ Information.of_estimate n (estimated e)
  unfolding In.of_estimate Information.of_estimate
  start_is e =
      fused (E.inv rounded n e.covariance)
      ∙ (λ t. mapped (λ W. record { matrix = W; vector = matvec_is n n W e.state t }) (inv_is n e.covariance t))
    where
      fused : (a : Answer Matrix.Matrix) → mapped informed (mapped (λ W. In.information rounded n W e.state) a)
          ≡ mapped (λ W. informed (In.information rounded n W e.state)) a
      fused (Err k) = refl
      fused (Ok W) = refl

  pub covariance-answered : (o : In.Information rounded) → In.covariance rounded n o ≡ Information.covariance n (informed o)
  unfolding In.covariance Information.covariance
  covariance-answered o = inv_is n o.matrix

  pub state-answered : (o : In.Information rounded) → In.state rounded n o ≡ Information.state n (informed o)
  unfolding In.state Information.state
  state-answered o = λ t. mapped (λ P. matvec_is n n P o.vector t) (covariance-answered o t)

module _ (Y : Filter.Sensor Matrix.Matrix) (z : Matrix.Vector) where
  module _ (e : Li.Estimate rounded) where
    abbrev K : Matrix.Matrix → Matrix.Matrix
    K W = Filter.gain Y.n Y.m e.covariance Y.h W

    correction_is : (W : Matrix.Matrix)
        → outcome_as estimated (done (Li.innovation rounded Y.n Y.m Y.h e.state z) (Li.corrected rounded Y.n Y.m Y.h z e W))
        ≡ Linear.correction Y z (estimated e) W
    unfolding Li.corrected Linear.correction
    correction_is W = λ t. done (innovation_is Y.n Y.m Y.h e.state z t) (Filter.estimate (state t) (covariance t))
      where
        state : Li.corrected_state rounded Y.n Y.m (Li.gain rounded Y.n Y.m e.covariance Y.h W) (Li.innovation rounded Y.n Y.m Y.h e.state z) e.state
            ≡ Filter.corrected_state Y.n Y.m (K W) (Filter.innovation Y.m Y.n Y.h e.state z) e.state
        state =
            (λ t. Li.corrected_state rounded Y.n Y.m (gain_is Y.n Y.m e.covariance Y.h W t) (innovation_is Y.n Y.m Y.h e.state z t)
            e.state)
            ∙ state_is Y.n Y.m (K W) (Filter.innovation Y.m Y.n Y.h e.state z) e.state

        covariance : Li.corrected_covariance rounded Y.n Y.m (Li.gain rounded Y.n Y.m e.covariance Y.h W) Y.h e.covariance
            ≡ Filter.corrected_covariance Y.n Y.m (K W) Y.h e.covariance
        covariance =
            (λ t. Li.corrected_covariance rounded Y.n Y.m (gain_is Y.n Y.m e.covariance Y.h W t) Y.h e.covariance)
            ∙ corrected_is Y.n Y.m (K W) Y.h e.covariance

    pub linear-update_is : outcome_as estimated (Li.update rounded Y.n Y.m Y.h Y.r z e) ≡ Linear.update Y z (estimated e)
    unfolding Li.update Linear.update
    linear-update_is =
        alike estimated (E.inv rounded Y.m (Li.propagated rounded Y.m Y.n Y.h e.covariance Y.r))
        (Inverse.inv Y.m (Filter.propagated Y.m Y.n Y.h e.covariance Y.r)) unchanged
        (λ W. done (Li.innovation rounded Y.n Y.m Y.h e.state z) (Li.corrected rounded Y.n Y.m Y.h z e W))
        (Linear.correction Y z (estimated e))
        (inv_is Y.m (Li.propagated rounded Y.m Y.n Y.h e.covariance Y.r)
        ∙ ap (Inverse.inv Y.m) (covariance_is Y.m Y.n Y.h e.covariance Y.r))
        correction_is

  -- ---- the information filter
  module _ (o : In.Information rounded) where
    informed_is : (W : Matrix.Matrix) → informed (In.informed rounded Y.n Y.m Y.h W z o) ≡ Information.informed Y.n Y.m Y.h W z (informed o)
    unfolding In.informed In.informed_matrix In.informed_vector Information.informed
        M.add Matrix.add M.vec_add Matrix.vec_add M.transpose Matrix.transpose
    informed_is W = λ t. record { matrix = Matrix.add Y.n Y.n o.matrix (matrix t); vector = Matrix.vec_add Y.n o.vector (vector t) }
      where
        Hᵀ : Matrix.Matrix
        Hᵀ = Matrix.transpose Y.m Y.n Y.h

        matrix : M.mul rounded Y.n Y.m Y.n (M.mul rounded Y.n Y.m Y.m Hᵀ W) Y.h ≡ Matrix.mul Y.n Y.m Y.n (Matrix.mul Y.n Y.m Y.m Hᵀ W) Y.h
        matrix =
            mul_is Y.n Y.m Y.n (M.mul rounded Y.n Y.m Y.m Hᵀ W) Y.h
            ∙ ap (λ (Z : Matrix.Matrix). Matrix.mul Y.n Y.m Y.n Z Y.h) (mul_is Y.n Y.m Y.m Hᵀ W)

        vector : M.matvec rounded Y.n Y.m Hᵀ (M.matvec rounded Y.m Y.m W z) ≡ Matrix.matvec Y.n Y.m Hᵀ (Matrix.matvec Y.m Y.m W z)
        vector =
            matvec_is Y.n Y.m Hᵀ (M.matvec rounded Y.m Y.m W z)
            ∙ ap (Matrix.matvec Y.n Y.m Hᵀ) (matvec_is Y.m Y.m W z)

    pub information-update_is : outcome_as informed (In.update rounded Y.n Y.m Y.h Y.r z o) ≡ Information.update Y z (informed o)
    unfolding In.update Information.update
    information-update_is =
        alike informed (E.inv rounded Y.m Y.r) (Inverse.inv Y.m Y.r) unchanged
        (λ W. In.state rounded Y.n (p W) else_leave (this (p W)) then λ x. done (Li.innovation rounded Y.n Y.m Y.h x z) (p W))
        (λ W. Information.state Y.n (q W) else_leave (this (q W)) then λ x. done (Filter.innovation Y.m Y.n Y.h x z) (q W))
        (inv_is Y.m Y.r)
        (λ W.
        alike informed (In.state rounded Y.n (p W)) (Information.state Y.n (informed (p W))) (this (p W))
        (λ x. done (Li.innovation rounded Y.n Y.m Y.h x z) (p W)) (λ x. done (Filter.innovation Y.m Y.n Y.h x z) (informed (p W)))
        (state-answered Y.n (p W)) (λ x. ap (λ (y : Matrix.Vector). done y (informed (p W))) (innovation_is Y.n Y.m Y.h x z))
        ∙ ap (λ (i : Information.Information). Information.state Y.n i else_leave (this i) then λ x. done (Filter.innovation Y.m Y.n Y.h x z) i)
        (informed_is W))
      where
        p : Matrix.Matrix → In.Information rounded
        p W = In.informed rounded Y.n Y.m Y.h W z o

        q : Matrix.Matrix → Information.Information
        q W = Information.informed Y.n Y.m Y.h W z (informed o)
