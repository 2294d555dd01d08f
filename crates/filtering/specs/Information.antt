-- The information filter, in the order of rounding of information_filter.rs. It keeps the inverted covariance Ω, and Ω × the state. Definitions only.
use Rattle.std.specs.Prelude.{ℕ, List, [], ◌∷◌}
use Rattle.answer.specs.Answer.{Answer, mapped}
use Rattle.answer.specs.Outcome.{Outcome, unchanged, this, done, ◌else_leave◌then◌}
use Rattle.algebra.specs.Matrix.{Vector, Matrix, mul, matvec, add, transpose, vec_add}
use Rattle.algebra.specs.Inverse.{inv}
use Rattle.filtering.specs.Filter.{Motion, Sensor, Estimate, predicted_state, predicted_covariance, innovation}

pub record Information : Type 0 where
  pub matrix : Matrix
  pub vector : Vector

-- Ω, and Ω x
abbrev pub information : ℕ → Matrix → Vector → Information
information n W x = record { matrix = W; vector = matvec n n W x }

-- of an estimate, for `new` and `reset`; the estimate itself. Each is refused with 3 where inversion rejects its matrix
unfoldable pub of_estimate : ℕ → Estimate → Answer Information
of_estimate n e = mapped (λ W. information n W e.state) (inv n e.covariance)

unfoldable pub covariance : ℕ → Information → Answer Matrix
covariance n o = inv n o.matrix

unfoldable pub state : ℕ → Information → Answer Vector
state n o = mapped (λ P. matvec n n P o.vector) (covariance n o)

unfoldable pub predict : Motion → Vector → Information → Outcome Information (Unit {0})
predict M u o =
    covariance M.n o else_leave unchanged then λ P.
    inv M.n (predicted_covariance M P) else_leave unchanged then λ W.
    done tt (information M.n W (predicted_state M u (matvec M.n M.n P o.vector)))

-- ---- what is measured is added: Hᵀ W H to the matrix, and Hᵀ (W z) to the vector, where W is the inverted noise
unfoldable pub informed : ℕ → ℕ → Matrix → Matrix → Vector → Information → Information
informed n m H W z o =
    let Hᵀ = transpose m n H in
    record { matrix = add n n o.matrix (mul n m n (mul n m m Hᵀ W) H); vector = vec_add n o.vector (matvec n m Hᵀ (matvec m m W z)) }

-- It tells z less H × the state after the addition. Refused with 3: inversion rejects R, and nothing changes; or the new Ω, and the addition stays
unfoldable pub update : Sensor Matrix → Vector → Information → Outcome Information Vector
update Y z o =
    inv Y.m Y.r else_leave unchanged then λ W.
    let o' = informed Y.n Y.m Y.h W z o in
    state Y.n o' else_leave (this o') then λ x.
    done (innovation Y.m Y.n Y.h x z) o'

-- a sensor in a fusion: H, the inverted noise, and what it measured
pub record Reading : Type 0 where
  pub h : Matrix
  pub w : Matrix
  pub z : Vector

-- one reading after another, m numbers each
unfoldable pub fuse : ℕ → ℕ → List Reading → Information → Information
fuse n m [] o = o
fuse n m (s ∷ l) o = fuse n m l (informed n m s.h s.w s.z o)
