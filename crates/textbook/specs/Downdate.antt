-- The rank-one downdate of a factor, in any arithmetic: from L to the lower L' with L' × transposed L' = L × transposed L - v × transposed v.
-- Column by column, by rotations; Golub and Van Loan, 6.5.4. The filtering crate's downdate is `rotated` at `rounded` and `rust`. Definitions only.
use Rattle.std.specs.Prelude.{ℕ, zero, suc, cond, eqb, ltb}
use Rattle.answer.specs.declared.Refusal.TheVariants.{NotPositiveDefinite}
use Rattle.answer.specs.Answer.{Answer, refused_if}
use Rattle.answer.specs.Table.{table}
use Rattle.answer.specs.Outcome.{Outcome, unchanged, only, done, ◌else_leave◌then◌, onward}
use Rattle.textbook.specs.Arithmetic.{Arithmetic}
use Rattle.textbook.specs.Matrices.{Vec, Mat, at, cell, mat}

module _ (N : Arithmetic) where
  -- The two forms differ in the cell of L that v turns by: the new one, or the old one
  abbrev pub Form : Type 0
  Form = N.Num → N.Num → N.Num

  abbrev pub textbook : Form
  textbook new old = new

  -- chol_rank1_downdate of sqrt_kalman.rs
  abbrev pub rust : Form
  rust new old = old

  -- the square of column k's new diagonal; that diagonal, refused with 4 where the square is at or below zero
  unfoldable pub square : ℕ → Mat N → Vec N → N.Num
  square k L v = N.minus (N.times (cell N L k k) (cell N L k k)) (N.times (at N v k) (at N v k))

  unfoldable pub turned_diagonal : N.Num → Answer N.Num
  turned_diagonal d = refused_if (N.at_most d N.nought) NotPositiveDefinite (N.root d)

  -- ---- column k, whose new diagonal is d: the rotation has the cosine d / L k k and the sine v k / L k k

  -- the new cell below the diagonal, in row i
  unfoldable pub turned_cell : ℕ → N.Num → Mat N → Vec N → ℕ → N.Num
  turned_cell k d L v i = N.over (N.minus (cell N L i k) (N.times (N.over (at N v k) (cell N L k k)) (at N v i))) (N.over d (cell N L k k))

  unfoldable pub turned_factor : ℕ → ℕ → N.Num → Mat N → Vec N → Mat N
  turned_factor n k d L v =
      let column = table n (λ i. cond (ltb k i) (turned_cell k d L v i) (cond (eqb i k) d (cell N L i k))) in
      mat N n n (λ i j. cond (eqb j k) (at N column i) (cell N L i j))

  unfoldable pub turned_vector : Form → ℕ → ℕ → N.Num → Mat N → Vec N → Vec N
  turned_vector form n k d L v =
      let c = N.over d (cell N L k k) in
      let s = N.over (at N v k) (cell N L k k) in
      table n (λ i. cond (ltb k i) (N.minus (N.times c (at N v i)) (N.times s (form (turned_cell k d L v i) (cell N L i k)))) (at N v i))

  unfoldable pub rotate : Form → ℕ → ℕ → Mat N → Vec N → Outcome (Mat N) (Vec N)
  rotate form n k L v =
      turned_diagonal (square k L v) else_leave unchanged then λ d. done (turned_vector form n k d L v) (turned_factor n k d L v)

  -- the first k columns; what is told is v as they have turned it
  unfoldable pub rotated : Form → ℕ → ℕ → Mat N → Vec N → Outcome (Mat N) (Vec N)
  rotated form n zero L v = only v
  rotated form n (suc k) L v = onward L (rotated form n k L v) (rotate form n k)
