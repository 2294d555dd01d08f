-- Inversion by Gauss and Jordan's elimination with partial pivoting, in any arithmetic: the algebra crate's is this one at `rounded`.
-- The choice of the pivot: Golub and Van Loan, 3.4. Definitions only.
use Rattle.std.specs.Prelude.{ℕ, zero, suc, ◌+◌, ◌-◌, cond, eqb, Ok}
use Rattle.answer.specs.declared.Refusal.TheVariants.{SingularMatrix}
use Rattle.answer.specs.Answer.{Answer, and_then, mapped, refused_if}
use Rattle.answer.specs.Table.{table}
use Rattle.textbook.specs.Arithmetic.{Arithmetic}
use Rattle.textbook.specs.Matrices.{Vec, Mat, at, cell, mat, identity}

module _ (N : Arithmetic) where
  -- the row of the pivot of column c, among the rows c to c + d: the first of largest magnitude
  unfoldable pub pivot_row : Mat N → ℕ → ℕ → ℕ
  pivot_row A c zero = c
  pivot_row A c (suc d) =
      let p = pivot_row A c d in
      let i = c + suc d in
      cond (N.less (N.magnitude (cell N A p c)) (N.magnitude (cell N A i c))) i p

  -- rows p and c change places
  unfoldable pub swapped : ℕ → ℕ → ℕ → Mat N → Mat N
  swapped n p c A = mat N n n (λ i j. cond (eqb i c) (cell N A p j) (cond (eqb i p) (cell N A c j) (cell N A i j)))

  -- row c times s
  unfoldable pub scaled_row : ℕ → ℕ → N.Num → Mat N → Mat N
  scaled_row n c s A = mat N n n (λ i j. cond (eqb i c) (N.times (cell N A c j) s) (cell N A i j))

  -- every other row i less its factor, f i, times row c
  unfoldable pub reduced : ℕ → ℕ → Vec N → Mat N → Mat N
  reduced n c f A = mat N n n (λ i j. cond (eqb i c) (cell N A c j) (N.minus (cell N A i j) (N.times (at N f i) (cell N A c j))))

  -- the matrix on its way to the identity, beside the identity on its way to the inverse
  pub record Augmented : Type 0 where
    pub left : Mat N
    pub right : Mat N

  unfoldable pub exchanged : ℕ → ℕ → ℕ → Augmented → Augmented
  exchanged n p c w = record { left = swapped n p c w.left; right = swapped n p c w.right }

  -- row c is multiplied by the pivot's reciprocal, and every other row is reduced by it
  unfoldable pub cleared : ℕ → ℕ → Augmented → Augmented
  cleared n c w =
      let s = N.over N.unit (cell N w.left c c) in
      let A = scaled_row n c s w.left in
      let B = scaled_row n c s w.right in
      let f = table n (λ i. cell N A i c) in
      record { left = reduced n c f A; right = reduced n c f B }

  -- column c: its pivot is brought to the diagonal, and the column is cleared; refused with 3 where there is no pivot
  unfoldable pub column : ℕ → ℕ → Augmented → Answer Augmented
  column n c w =
      let p = pivot_row w.left c (n - suc c) in
      refused_if (N.no_pivot (N.magnitude (cell N w.left p c))) SingularMatrix (cleared n c (exchanged n p c w))

  -- the first c columns
  unfoldable pub columns : ℕ → ℕ → Mat N → Answer Augmented
  columns n zero A = Ok (record { left = A; right = identity N n })
  columns n (suc c) A = and_then (columns n c A) (λ w. column n c w)

  unfoldable pub inv : ℕ → Mat N → Answer (Mat N)
  inv n A = mapped (λ w. w.right) (columns n n A)
