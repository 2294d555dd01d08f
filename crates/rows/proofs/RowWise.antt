-- A result made row by row: each row of a sum or a product follows from the same row of its left operand, so no matrix in between is stored. Assumes nothing.
use mathlib.Core.Path.{◌≡◌, sym, ap, ap₂, ◌∙◌}
use mathlib.Core.List.{List, []}
use Prim.Native.Nat.{ℕ, ◌<◌}
use native.Mathlib.Nat.{le_trans}
use lib.Ieee.{Float, nan}
use Rattle.scalar.specs.Number.{◌⊕◌, ◌⊖◌, ◌⊗◌}
use Rattle.answer.specs.Table.{table}
use Rattle.algebra.specs.Matrix.{Vector, Matrix, at, row, cell, mat, sum_of, identity, transpose, add, sub, mul, vec_add, vec_sub}
use Rattle.algebra.specs.Array.{cut, used, pad_row}
use Rattle.sizes.proofs.Sizes.{Bounds}
use Rattle.rows.specs.Row.{pairwise, cellwise, row_times, row_times_transposed}
use Rattle.answer.proofs.Tables.{get_or-table, table_ext, table-get_or}
use Rattle.algebra.proofs.Matrices.{sum_ext, cell-mat, Shape}
use Rattle.algebra.proofs.Arrays.{at_cut, cell-used, row-used, identity-used}

-- the first c of v's four numbers are row i of A, which has r rows of c
pub record RowOf (r c : ℕ) (A : Matrix) (i : ℕ) (v : List Float) : Type 0 where
  pub within : i < r
  pub size : Bounds c
  pub is : cut c v ≡ row A i

-- component j of v is the cell of A
at_row : {r c : ℕ} {A : Matrix} {i : ℕ} {v : List Float} → RowOf r c A i v → (j : ℕ) → j < c → at v j ≡ cell A i j
at_row {r} {c} {A} {i} {v} a j h = sym (at_cut c v j h) ∙ ap (λ (u : Vector). at u j) a.is

-- a row of four numbers f that agree with row i of the matrix of g
row_made : (r c : ℕ) (f : ℕ → Float) (g : ℕ → ℕ → Float) (i : ℕ) {s : List Float} → i < r → Bounds c → ((j : ℕ) → j < c → f j ≡ g i j) → s ≡ table 4 f → RowOf r c (mat r c g) i s
unfolding cut
row_made r c f g i l C p e = record {
  within = l;
  size = C;
  is = ap (cut c) e
      ∙ table_ext c (λ j. at (table 4 f) j) (λ j. g i j) (λ j k. get_or-table 4 f j nan (le_trans k C.most) ∙ p j k)
      ∙ sym (get_or-table r (λ k. table c (λ j. g k j)) i [] l);
}

-- the matrix under another name
pub row_renamed : {r c : ℕ} {A B : Matrix} {i : ℕ} {v : List Float} → A ≡ B → RowOf r c A i v → RowOf r c B i v
row_renamed {r} {c} {A} {B} {i} {v} e a = record { within = a.within; size = a.size; is = a.is ∙ ap (λ (X : Matrix). row X i) e }

-- ---- the rows to begin with
pub row_of_used : {r c : ℕ} {i : ℕ} (a : List (List Float)) → i < r → Bounds c → RowOf r c (used r c a) i (row a i)
row_of_used {r} {c} {i} a h C = record { within = h; size = C; is = sym (row-used r c a i h) }

pub row_of_identity : {n i : ℕ} {e : List (List Float)} → i < n → Bounds n → e ≡ identity 4 → RowOf n n (identity n) i (row e i)
row_of_identity {n} {i} {e} h N d = record {
  within = h;
  size = N;
  is = sym (row-used n n e i h) ∙ ap (λ (A : Matrix). row A i) (ap (used n n) d ∙ identity-used n N.most);
}

-- ---- sums and differences
module _ {r c : ℕ} {A B : Matrix} {i : ℕ} {v w s : List Float} (a : RowOf r c A i v) (b : RowOf r c B i w) where
  row_paired : (f : Float → Float → Float) → s ≡ pairwise f 4 v w → RowOf r c (cellwise f r c A B) i s
  row_paired f e =
      row_made r c (λ j. f (at v j) (at w j)) (λ k j. f (cell A k j) (cell B k j)) i a.within a.size (λ j k. ap₂ f (at_row a j k) (at_row b j k)) e

  pub row_of_sum : s ≡ vec_add 4 v w → RowOf r c (add r c A B) i s
  unfolding add vec_add
  row_of_sum e = row_paired (λ x y. x ⊕ y) e

  pub row_of_difference : s ≡ vec_sub 4 v w → RowOf r c (sub r c A B) i s
  unfolding sub vec_sub
  row_of_difference e = row_paired (λ x y. x ⊖ y) e

-- ---- products
module _ {r k c : ℕ} {A : Matrix} {i : ℕ} {v s : List Float} (a : RowOf r k A i v) (C : Bounds c) where
  -- g t j is what the code reads of B
  row-times : (B : Matrix) (g : ℕ → ℕ → Float) → ((t j : ℕ) → t < k → j < c → g t j ≡ cell B t j)
      → s ≡ table 4 (λ j. sum_of k (λ t. at v t ⊗ g t j)) → RowOf r c (mul r k c A B) i s
  unfolding mul
  row-times B g b e =
      row_made r c (λ j. sum_of k (λ t. at v t ⊗ g t j)) (λ m j. sum_of k (λ t. cell A m t ⊗ cell B t j)) i a.within C
      (λ j m. sum_ext k (λ t. at v t ⊗ g t j) (λ t. cell A i t ⊗ cell B t j) (λ t n. ap₂ (λ (x y : Float). x ⊗ y) (at_row a t n) (b t j n m)))
      e

  pub row_of_product : (b : List (List Float)) → s ≡ row_times k v b → RowOf r c (mul r k c A (used k c b)) i s
  unfolding row_times
  row_of_product b e = row-times (used k c b) (λ t j. cell b t j) (λ t j m n. sym (cell-used k c b t j m n)) e

  pub row_of_product_transposed : (b : List (List Float)) → s ≡ row_times_transposed k v b
      → RowOf r c (mul r k c A (transpose c k (used c k b))) i s
  unfolding transpose row_times_transposed
  row_of_product_transposed b e =
      row-times (transpose c k (used c k b)) (λ t j. cell b j t)
      (λ t j m n. sym (cell-mat k c (λ p q. cell (used c k b) q p) t j m n ∙ cell-used c k b j t n m)) e

-- ---- the row is stored, and at the end the rows are the matrix
pub row_leading : {r c : ℕ} {A : Matrix} {i : ℕ} {s : List Float} → RowOf r c A i s → pad_row (cut c s) ≡ pad_row (row A i)
row_leading a = ap pad_row a.is

pub rows_are : {r c : ℕ} {A : Matrix} → Shape r c A → A ≡ table r (λ i. row A i)
rows_are {r} {c} {A} s = sym (ap (λ (k : ℕ). table k (λ i. row A i)) (sym s.rows) ∙ table-get_or A [])
