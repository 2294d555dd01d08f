-- The information filter, in any arithmetic: the filtering crate's is this one at `rounded`. It keeps the inverted covariance Ω, and Ω × the state.
-- n states, i inputs, m measurements. The state moves to A x + B u, with noise Q; z = H x is measured, with noise R. Definitions only.
use Rattle.std.specs.Prelude.{◌≡◌, ℕ}
use Rattle.answer.specs.Answer.{Answer, mapped}
use Rattle.answer.specs.Outcome.{Outcome, unchanged, this, done, ◌else_leave◌then◌}
use Rattle.textbook.specs.Arithmetic.{Arithmetic}
use Rattle.textbook.specs.Matrices.{Vec, Mat, vec_add, matvec, transpose, add, mul, Inverse}
use Rattle.textbook.specs.Elimination.{inv}
use Rattle.textbook.specs.Linear.{Estimate, predicted_state, propagated, innovation}

module _ (N : Arithmetic) where
  pub record Information : Type 0 where
    pub matrix : Mat N
    pub vector : Vec N

  module _ (n : ℕ) where
    -- Ω, and Ω x
    abbrev pub information : Mat N → Vec N → Information
    information W x = record { matrix = W; vector = matvec N n n W x }

    unfoldable pub of_estimate : Estimate N → Answer Information
    of_estimate e = mapped (λ W. information W e.state) (inv N n e.covariance)

    unfoldable pub covariance : Information → Answer (Mat N)
    covariance o = inv N n o.matrix

    unfoldable pub state : Information → Answer (Vec N)
    state o = mapped (λ P. matvec N n n P o.vector) (covariance o)

    -- Refused with 3 where inversion rejects Ω, or the predicted covariance; nothing changes
    unfoldable pub predict : ℕ → Mat N → Mat N → Mat N → Vec N → Information → Outcome Information (Unit {0})
    predict i A B Q u o =
        covariance o else_leave unchanged then λ P.
        inv N n (propagated N n n A P Q) else_leave unchanged then λ W.
        done tt (information W (predicted_state N n i A B u (matvec N n n P o.vector)))

    module _ (m : ℕ) where
      -- Ω + Hᵀ W H, and Ω x + Hᵀ (W z), where W is the inverted noise
      unfoldable pub informed_matrix : Mat N → Mat N → Mat N → Mat N
      informed_matrix H W Ω = add N n n Ω (mul N n m n (mul N n m m (transpose N m n H) W) H)

      unfoldable pub informed_vector : Mat N → Mat N → Vec N → Vec N → Vec N
      informed_vector H W z v = vec_add N n v (matvec N n m (transpose N m n H) (matvec N m m W z))

      unfoldable pub informed : Mat N → Mat N → Vec N → Information → Information
      informed H W z o = record { matrix = informed_matrix H W o.matrix; vector = informed_vector H W z o.vector }

      -- It tells z less H × the state after the addition.
      -- Refused with 3: inversion rejects R, and nothing changes; or the new Ω, and the addition stays
      unfoldable pub update : Mat N → Mat N → Vec N → Information → Outcome Information (Vec N)
      update H R z o =
          inv N m R else_leave unchanged then λ W.
          let o' = informed H W z o in
          state o' else_leave (this o') then λ x.
          done (innovation N n m H x z) o'

    -- o is the information of the estimate e
    pub record Informs (e : Estimate N) (o : Information) : Type 0 where
      pub matrix : Inverse N n e.covariance o.matrix
      pub vector : o.vector ≡ matvec N n n o.matrix e.state
