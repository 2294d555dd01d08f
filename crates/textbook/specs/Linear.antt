-- The linear filter, in any arithmetic: the filtering crate's is this one at `rounded`. Kalman 1960. Definitions only.
-- n states, i inputs, m measurements. State x with covariance P moves to A x + B u, with noise Q; z = H x is measured, with noise R.
use Rattle.std.specs.Prelude.{ℕ}
use Rattle.answer.specs.Outcome.{Outcome, unchanged, done, ◌else_leave◌then◌}
use Rattle.textbook.specs.Arithmetic.{Arithmetic}
use Rattle.textbook.specs.Matrices.{Vec, Mat, vec_add, vec_sub, matvec, identity, transpose, add, sub, mul}
use Rattle.textbook.specs.Elimination.{inv}

module _ (N : Arithmetic) where
  pub record Estimate : Type 0 where
    pub state : Vec N
    pub covariance : Mat N

  -- A P Aᵀ + Q, for an A of r rows and n columns
  unfoldable pub propagated : ℕ → ℕ → Mat N → Mat N → Mat N → Mat N
  propagated r n A P Q = add N r r (mul N r n r (mul N r n n A P) (transpose N r n A)) Q

  module _ (n i : ℕ) where
    -- A x + B u
    unfoldable pub predicted_state : Mat N → Mat N → Vec N → Vec N → Vec N
    predicted_state A B u x = vec_add N n (matvec N n n A x) (matvec N n i B u)

    unfoldable pub predicted : Mat N → Mat N → Mat N → Vec N → Estimate → Estimate
    predicted A B Q u e = record { state = predicted_state A B u e.state; covariance = propagated n n A e.covariance Q }

    unfoldable pub predict : Mat N → Mat N → Mat N → Vec N → Estimate → Outcome Estimate (Unit {0})
    predict A B Q u e = done tt (predicted A B Q u e)

  module _ (n m : ℕ) where
    -- z - H x
    unfoldable pub innovation : Mat N → Vec N → Vec N → Vec N
    innovation H x z = vec_sub N m z (matvec N m n H x)

    -- P Hᵀ × W
    unfoldable pub gain : Mat N → Mat N → Mat N → Mat N
    gain P H W = mul N n m m (mul N n n m P (transpose N m n H)) W

    -- x + K y
    unfoldable pub corrected_state : Mat N → Vec N → Vec N → Vec N
    corrected_state K y x = vec_add N n x (matvec N n m K y)

    -- (I - K H) × P
    unfoldable pub corrected_covariance : Mat N → Mat N → Mat N → Mat N
    corrected_covariance K H P = mul N n n n (sub N n n (identity N n) (mul N n m n K H)) P

    -- the estimate that the inverted innovation covariance W leads to
    unfoldable pub corrected : Mat N → Vec N → Estimate → Mat N → Estimate
    corrected H z e W =
        let K = gain e.covariance H W in
        record {
          state = corrected_state K (innovation H e.state z) e.state;
          covariance = corrected_covariance K H e.covariance;
        }

    -- it tells the innovation; refused with 3 where inversion rejects the innovation covariance H P Hᵀ + R
    unfoldable pub update : Mat N → Mat N → Vec N → Estimate → Outcome Estimate (Vec N)
    update H R z e =
        inv N m (propagated m n H e.covariance R) else_leave unchanged then λ W.
        done (innovation H e.state z) (corrected H z e W)
