-- Inversion by Gauss and Jordan's elimination with partial pivoting, of a matrix of any size n; Golub and Van Loan, 3.4. Definitions only.
-- Each operation on numbers rounds once, in the order of src/core/matrix.rs.
use Rattle.std.specs.Prelude.{ℕ, zero, suc, ◌+◌, ◌-◌, Bool, cond, eqb, Float, Ok}
use Rattle.std.specs.Float.Ieee.{lt, of_bits}
use Rattle.std.specs.Float.{binary64}
use Rattle.scalar.specs.Number.{◌⊖◌, ◌⊗◌, ◌⊘◌, one, epsilon, abs}
use Rattle.answer.specs.declared.Refusal.TheVariants.{SingularMatrix}
use Rattle.answer.specs.Answer.{Answer, and_then, mapped, refused_if}
use Rattle.answer.specs.Table.{table}
use Rattle.algebra.specs.Matrix.{Vector, Matrix, at, cell, mat, identity}

-- ---- the pivot

-- EPSILON × 1,000,000, one product
abbrev pub limit : Float
limit = epsilon ⊗ of_bits binary64 0x412e_8480_0000_0000

-- a pivot of magnitude x is refused; a NaN is not below the limit
unfoldable pub no_pivot : Float → Bool
no_pivot x = lt x limit

-- The row of the pivot of column c, among the rows c to c + d: the first of largest magnitude.
-- No number is above a NaN, and a NaN is above none: one on the diagonal is never beaten, and one below it never wins
unfoldable pub pivot_row : Matrix → ℕ → ℕ → ℕ
pivot_row A c zero = c
pivot_row A c (suc d) =
    let p = pivot_row A c d in
    let i = c + suc d in
    cond (lt (abs (cell A p c)) (abs (cell A i c))) i p

-- ---- the three operations on the rows of an n × n matrix

-- rows p and c change places
unfoldable pub swapped : ℕ → ℕ → ℕ → Matrix → Matrix
swapped n p c A = mat n n (λ i j. cond (eqb i c) (cell A p j) (cond (eqb i p) (cell A c j) (cell A i j)))

-- row c times s
unfoldable pub scaled_row : ℕ → ℕ → Float → Matrix → Matrix
scaled_row n c s A = mat n n (λ i j. cond (eqb i c) (cell A c j ⊗ s) (cell A i j))

-- every other row i less its factor, f i, times row c
unfoldable pub reduced : ℕ → ℕ → Vector → Matrix → Matrix
reduced n c f A = mat n n (λ i j. cond (eqb i c) (cell A c j) (cell A i j ⊖ at f i ⊗ cell A c j))

-- ---- the elimination

-- The augmented matrix: its left part is on the way to the identity, and its right part, the identity at first, on the way to the inverse
pub record Augmented : Type 0 where
  pub left : Matrix
  pub right : Matrix

infix 20 ◌beside◌
abbrev pub ◌beside◌ : Matrix → Matrix → Augmented
A beside B = record { left = A; right = B }

-- rows p and c of both parts change places
unfoldable pub exchanged : ℕ → ℕ → ℕ → Augmented → Augmented
exchanged n p c w = swapped n p c w.left beside swapped n p c w.right

-- the pivot of column c stands on the diagonal: row c is multiplied by its reciprocal, and every other row's factor stands in that column
unfoldable pub cleared : ℕ → ℕ → Augmented → Augmented
cleared n c w =
    let s = one ⊘ cell w.left c c in
    let A = scaled_row n c s w.left in
    let B = scaled_row n c s w.right in
    let f = table n (λ i. cell A i c) in
    reduced n c f A beside reduced n c f B

-- column c: its pivot is brought to the diagonal, and the column is cleared; refused where there is no pivot
unfoldable pub column : ℕ → ℕ → Augmented → Answer Augmented
column n c w =
    let p = pivot_row w.left c (n - suc c) in
    refused_if (no_pivot (abs (cell w.left p c))) SingularMatrix (cleared n c (exchanged n p c w))

-- the first c columns, from left to right
unfoldable pub columns : ℕ → ℕ → Matrix → Answer Augmented
columns n zero A = Ok (A beside identity n)
columns n (suc c) A = and_then (columns n c A) (λ w. column n c w)

unfoldable pub inv : ℕ → Matrix → Answer Matrix
inv n A = mapped (λ w. w.right) (columns n n A)
