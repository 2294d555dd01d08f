-- In exact arithmetic the information filter is the linear filter, step by step. Assumes nothing.
use mathlib.Core.Path.{◌≡◌, refl, sym, ap, ◌∙◌, subst, subst⁻¹}
use Prim.Native.Nat.{ℕ, ◌<◌}
use native.Mathlib.Omega.{arith}
use Rattle.std.specs.Prelude.{Ok, Err}
use Rattle.answer.specs.Answer.{Answer}
use Rattle.answer.specs.Outcome.{Outcome, unchanged, this, final, done, ◌else_leave◌then◌}
use Rattle.answer.proofs.Tables.{table_ext}
use Rattle.answer.proofs.Answers.{differ, Told, result_of, told-mapped}
use Rattle.textbook.specs.Arithmetic.{Arithmetic, Exact}
use Rattle.textbook.specs.Matrices as M
use Rattle.textbook.specs.Elimination.{inv}
use Rattle.textbook.specs.Linear as Li
use Rattle.textbook.specs.Information as In
use Rattle.textbook.proofs.Field as F
use Rattle.textbook.proofs.Cells as Cells
use Rattle.textbook.proofs.Products as Pr
use Rattle.textbook.proofs.Inverse.{told-inverse}
use Rattle.textbook.proofs.InversionLemma.{information-inverse, information-state}

module _ (N : Arithmetic) (X : Exact N) (n : ℕ) (e : Li.Estimate N) (o : In.Information N) where
  pub informs_start : In.of_estimate N n e ≡ Ok o → In.Informs N n e o
  unfolding In.of_estimate
  informs_start a =
      result_of {P = In.Informs N n e} (told-mapped _ (told-inverse N X n e.covariance) (λ W g. record { matrix = g; vector = refl })) a

  -- P (Ω x) is x where P Ω = I
  back : (P : M.Mat N) → M.Inverse N n o.matrix P → In.Informs N n e o
      → (i : ℕ) → i < n → M.at N (M.matvec N n n P o.vector) i ≡ M.at N e.state i
  back P g p i hi =
      sym (Pr.at_upright N X n (M.matvec N n n P o.vector) i 0 hi (omega arith))
      ∙ ap (λ (Z : M.Mat N). M.cell N Z i 0) upright
      ∙ Cells.cell-mat N n 1 (M.cell N (Pr.upright N X n e.state)) i 0 hi (omega arith)
      ∙ Pr.at_upright N X n e.state i 0 hi (omega arith)
    where
      upright : Pr.upright N X n (M.matvec N n n P o.vector) ≡ Pr.fit N X n 1 (Pr.upright N X n e.state)
      upright =
          Pr.upright-matvec N X n n P o.vector
          ∙ ap (M.mul N n n 1 P) (ap (Pr.upright N X n) p.vector ∙ Pr.upright-matvec N X n n o.matrix e.state)
          ∙ sym (Pr.mul_assoc N X n n n 1 P o.matrix (Pr.upright N X n e.state))
          ∙ ap (λ (Z : M.Mat N). M.mul N n n 1 Z (Pr.upright N X n e.state)) g.before
          ∙ Pr.identity-left N X n 1 (Pr.upright N X n e.state)

  pub informs_state : (x : M.Vec N) → In.Informs N n e o → In.state N n o ≡ Ok x → (i : ℕ) → i < n → M.at N x i ≡ M.at N e.state i
  unfolding In.state In.covariance
  informs_state x p a =
      result_of {P = λ (w : M.Vec N). (i : ℕ) → i < n → M.at N w i ≡ M.at N e.state i}
      (told-mapped _ (told-inverse N X n o.matrix) (λ P g. back P g p)) a

  -- P' is P, cell by cell, where both are the inverse of Ω
  same : (P' : M.Mat N) → M.Inverse N n o.matrix P' → In.Informs N n e o → Pr.fit N X n n P' ≡ Pr.fit N X n n e.covariance
  same P' g p =
      sym (Pr.identity-left N X n n P')
      ∙ ap (λ (Z : M.Mat N). M.mul N n n n Z P') (sym p.matrix.after)
      ∙ Pr.mul_assoc N X n n n n e.covariance o.matrix P'
      ∙ ap (M.mul N n n n e.covariance) g.after
      ∙ Pr.identity-right N X n n e.covariance

  pub informs_covariance : (P : M.Mat N) → In.Informs N n e o → In.covariance N n o ≡ Ok P
      → (i j : ℕ) → i < n → j < n → M.cell N P i j ≡ M.cell N e.covariance i j
  unfolding In.covariance
  informs_covariance P p a i j hi hj =
      sym (Cells.cell-mat N n n (M.cell N P) i j hi hj)
      ∙ ap (λ (Z : M.Mat N). M.cell N Z i j) (same P (result_of (told-inverse N X n o.matrix) a) p)
      ∙ Cells.cell-mat N n n (M.cell N e.covariance) i j hi hj

  module _ (i : ℕ) (A B Q : M.Mat N) (u : M.Vec N) (p : In.Informs N n e o) where
    -- a step from P' and P' (Ω x) is one from P and x
    covariance-same : (P' : M.Mat N) → M.Inverse N n o.matrix P' → Li.propagated N n n A P' Q ≡ Li.propagated N n n A e.covariance Q
    unfolding Li.propagated
    covariance-same P' g =
        ap (λ (Z : M.Mat N). M.add N n n (M.mul N n n n Z (M.transpose N n n A)) Q)
        (sym (Pr.fit-right N X n n n A P') ∙ ap (M.mul N n n n A) (same P' g p) ∙ Pr.fit-right N X n n n A e.covariance)

    state-same : (P' : M.Mat N) → M.Inverse N n o.matrix P'
        → Li.predicted_state N n i A B u (M.matvec N n n P' o.vector) ≡ Li.predicted_state N n i A B u e.state
    unfolding Li.predicted_state M.matvec
    state-same P' g =
        ap (λ (v : M.Vec N). M.vec_add N n v (M.matvec N n i B u))
        (table_ext n (λ r. M.sum_of N n (λ t. N.times (M.cell N A r t) (M.at N x' t)))
        (λ r. M.sum_of N n (λ t. N.times (M.cell N A r t) (M.at N e.state t)))
        (λ r hr. F.sum_ext N X n (λ t. N.times (M.cell N A r t) (M.at N x' t)) (λ t. N.times (M.cell N A r t) (M.at N e.state t))
        (λ t ht. ap (N.times (M.cell N A r t)) (back P' g p t ht))))
      where
        x' : M.Vec N
        x' = M.matvec N n n P' o.vector

    pub informs_predict : (o' : In.Information N) → In.predict N n i A B Q u o ≡ done tt o' → In.Informs N n (Li.predicted N n i A B Q u e) o'
    unfolding In.predict In.covariance Li.predicted
    informs_predict o' a = by (inv N n o.matrix) (told-inverse N X n o.matrix) a
      where
        left : M.Mat N → M.Mat N → In.Information N
        left P W = In.information N n W (Li.predicted_state N n i A B u (M.matvec N n n P o.vector))

        Result : Type 0
        Result = Outcome (In.Information N) (Unit {0})

        after : M.Mat N → Answer (M.Mat N) → Result
        after P s = s else_leave unchanged then λ W. done tt (left P W)

        with-inverse : (P : M.Mat N) → M.Inverse N n o.matrix P → (s : Answer (M.Mat N))
            → Told (λ k. Unit {0}) (M.Inverse N n (Li.propagated N n n A P Q)) s
            → after P s ≡ done tt o' → In.Informs N n (Li.predicted N n i A B Q u e) o'
        with-inverse P g (Err k) t d = absurd (differ (ap (λ (w : Result). w.told) d))
        with-inverse P g (Ok W) t d =
            subst (In.Informs N n (Li.predicted N n i A B Q u e)) (ap (λ (w : Result). final o w.left) d) (record {
              matrix = subst (λ (Z : M.Mat N). M.Inverse N n Z W) (covariance-same P g) (result_of t refl);
              vector = ap (M.matvec N n n W) (state-same P g);
            })

        by : (s : Answer (M.Mat N)) → Told (λ k. Unit {0}) (M.Inverse N n o.matrix) s
            → (s else_leave unchanged then λ P. after P (inv N n (Li.propagated N n n A P Q))) ≡ done tt o'
            → In.Informs N n (Li.predicted N n i A B Q u e) o'
        by (Err k) t d = absurd (differ (ap (λ (w : Result). w.told) d))
        by (Ok P) t d =
            with-inverse P (result_of t refl) (inv N n (Li.propagated N n n A P Q)) (told-inverse N X n (Li.propagated N n n A P Q)) d

  module _ (m : ℕ) (H R W : M.Mat N) (z : M.Vec N) (p : In.Informs N n e o) where
    abbrev o' : In.Information N
    o' = In.informed N n m H W z o

    -- what the update leaves, where R is inverted
    leaves : inv N m R ≡ Ok W → final o (In.update N n m H R z o).left ≡ o'
    unfolding In.update
    leaves b =
        ap (λ (r : Answer (M.Mat N)). final o (r else_leave unchanged then λ Z.
        In.state N n (In.informed N n m H Z z o) else_leave (this (In.informed N n m H Z z o)) then λ x.
        done (Li.innovation N n m H x z) (In.informed N n m H Z z o)).left) b
        ∙ by (In.state N n o')
      where
        by : (s : Answer (M.Vec N)) → final o (s else_leave (this o') then λ x. done (Li.innovation N n m H x z) o').left ≡ o'
        by (Err k) = refl
        by (Ok x) = refl

    informs_corrected : M.Inverse N m R W → (S⁻¹ : M.Mat N) → M.Inverse N m (Li.propagated N m n H e.covariance R) S⁻¹
        → In.Informs N n (Li.corrected N n m H z e S⁻¹) o'
    unfolding Li.corrected In.informed
    informs_corrected q S⁻¹ g = record {
      matrix = information-inverse N X n m e.covariance o.matrix R W H S⁻¹ p.matrix q g;
      vector =
          ap (In.informed_vector N n m H W z) p.vector
          ∙ sym (information-state N X n m e.covariance o.matrix R W H S⁻¹ p.matrix q g e.state z);
    }

    pub informs_update : (y : M.Vec N) (u : Li.Estimate N) → Li.update N n m H R z e ≡ done y u → inv N m R ≡ Ok W
        → In.Informs N n u (final o (In.update N n m H R z o).left)
    unfolding Li.update
    informs_update y u a b =
        subst⁻¹ (In.Informs N n u) (leaves b) (by (inv N m S) (told-inverse N X m S) a)
      where
        S : M.Mat N
        S = Li.propagated N m n H e.covariance R

        by : (s : Answer (M.Mat N)) → Told (λ k. Unit {0}) (M.Inverse N m S) s
            → (s else_leave unchanged then λ Z. done (Li.innovation N n m H e.state z) (Li.corrected N n m H z e Z)) ≡ done y u
            → In.Informs N n u o'
        by (Err k) t d = absurd (differ (ap (λ (w : Outcome (Li.Estimate N) (M.Vec N)). w.told) d))
        by (Ok Z) t d =
            subst (λ (w : Li.Estimate N). In.Informs N n w o') (ap (λ (w : Outcome (Li.Estimate N) (M.Vec N)). final e w.left) d)
            (informs_corrected (result_of (told-inverse N X m R) b) Z (result_of t refl))
