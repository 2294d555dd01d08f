-- Laws of a product that is made row by row from slice to slice: the rows that are read, and the row that is put. Assumes nothing.
use mathlib.Core.Path.{◌≡◌, refl, sym, ap, ◌∙◌}
use mathlib.Core.List.{List, [], ◌∷◌}
use Prim.Native.Nat.{ℕ, ◌+◌, ◌*◌, ◌<◌, ◌≤◌}
use native.Mathlib.Nat.{le_trans}
use native.Mathlib.Omega.{arith}
use lib.ListN.{length}
use lib.Ieee.{Float}
use Rattle.scalar.specs.Number.{◌⊗◌}
use Rattle.answer.specs.Table.{table}
use Rattle.answer.proofs.Tables.{get_or-table, table_ext}
use Rattle.algebra.specs.Matrix.{Vector, Matrix, row, cell, sum_of, mul}
use Rattle.algebra.specs.Array.{cut, used, pad_row}
use Rattle.rows.specs.Row.{row_times}
use Rattle.sizes.proofs.Sizes.{Bounds}
use Rattle.rows.proofs.RowWise.{RowOf, row_of_product}
use Rattle.layout.specs.Layout.{vector_at, vector_in, matrix_at}
use Rattle.layout.proofs.Rows.{ends-within}
use Rattle.layout.proofs.Calls.{vector-used}

-- row i of r rows of c numbers
row_read : (r c : ℕ) (b : List Float) (i : ℕ) {v : List Float} → i < r → length b ≡ r * c → v ≡ pad_row (vector_in c b (i * c)) → cut c v ≡ vector_at c b (0 + i * c)
row_read r c b i h long p =
    let here : i * c ≡ 0 + i * c = omega arith in
    vector-used (i * c) b refl (omega (arith, ends-within {k = i} {n = r} c h)) p ∙ ap (vector_at c b) here

-- v is row i of the matrix in a
pub row_of : (r k : ℕ) (a : List Float) (i : ℕ) {v : List Float} → i < r → Bounds k → length a ≡ r * k → v ≡ pad_row (vector_in k a (i * k)) → RowOf r k (matrix_at r k a 0) i v
row_of r k a i h K long p = record { within = h; size = K; is = row_read r k a i h long p ∙ sym (get_or-table r (λ t. vector_at k a (0 + t * k)) i [] h) }

-- four rows that were read hold the matrix in b; one that is not there takes no part
pub rows_in : (k c : ℕ) (b : List Float) {r0 r1 r2 r3 : List Float} → k ≤ 4 → length b ≡ k * c → r0 ≡ pad_row (vector_in c b (0 * c)) → r1 ≡ pad_row (vector_in c b (1 * c))
    → r2 ≡ pad_row (vector_in c b (2 * c)) → r3 ≡ pad_row (vector_in c b (3 * c)) → used k c (r0 ∷ r1 ∷ r2 ∷ r3 ∷ []) ≡ matrix_at k c b 0
unfolding used
rows_in k c b h long e0 e1 e2 e3 =
    let F : ℕ → List Float = λ t. pad_row (vector_in c b (t * c)) in
    (λ i. used k c (e0 i ∷ e1 i ∷ e2 i ∷ e3 i ∷ []))
    ∙ table_ext k (λ t. cut c (row (table 4 F) t)) (λ t. vector_at c b (0 + t * c))
    (λ t g. ap (cut c) (get_or-table 4 F t [] (le_trans g h)) ∙ row_read k c b t g long refl)

-- row i of the product of A and B, and p is it
abbrev pub product_row : ℕ → ℕ → Matrix → Matrix → ℕ → Vector
product_row k c A B i = table c (λ j. sum_of k (λ t. cell A i t ⊗ cell B t j))

pub product-row : {r k c i : ℕ} {A : Matrix} {v p : List Float} (R : List (List Float)) → RowOf r k A i v → Bounds c → p ≡ row_times k v R
    → cut c p ≡ product_row k c A (used k c R) i
unfolding mul
product-row {r} {k} {c} {i} {A} R a C p = (row_of_product a C R p).is ∙ get_or-table r (product_row k c A (used k c R)) i [] a.within
