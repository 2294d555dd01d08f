-- A row of a part's result, by the kernels that make it: for the loops over any size, and where four states are written out. Assumes nothing.
use Prim.Native.Nat.{ℕ, ◌<◌}
use mathlib.Core.Path.{◌≡◌, sym, ◌∙◌}
use mathlib.Core.List.{List, [], ◌∷◌}
use lib.Ieee.{Float}
use Rattle.algebra.specs.Matrix.{Matrix, row, identity, add, sub, mul, transpose, vec_add, vec_sub}
use Rattle.algebra.specs.Array.{pad_row, used}
use Rattle.algebra.proofs.Matrices.{Shape}
use Rattle.sizes.specs.declared.Size.{Size}
use Rattle.sizes.specs.Size.{count, front, part}
use Rattle.rows.specs.Row.{row_times, row_times_transposed}
use Rattle.sizes.proofs.Sizes.{bounds}
use Rattle.rows.proofs.RowWise.{RowOf, row_of_used, row_of_identity, row_of_sum, row_of_difference, row_of_product, row_of_product_transposed, row_leading, rows_are}
use Rattle.filtering.specs.Filter.{propagated, gain, corrected_covariance}

abbrev Rows : Type 0
Rows = List (List Float)

-- P Hᵀ
pub across_row : (n m : Size) (p h : Rows) {i : ℕ} {s : List Float} → i < count n → s ≡ row_times_transposed (count n) (row p i) h
    → RowOf (count n) (count m) (mul (count n) (count n) (count m) (part n n p) (transpose (count m) (count n) (part m n h))) i s
across_row n m p h l es = row_of_product_transposed (row_of_used p l (bounds n)) (bounds m) h es

module _ {i : ℕ} {v : List Float} where
  -- A B
  pub product-row : (r k c : Size) (a b : Rows) {t : List Float} → i < count r → t ≡ row_times (count k) (row a i) b → v ≡ pad_row (front c t)
      → v ≡ pad_row (row (mul (count r) (count k) (count c) (part r k a) (part k c b)) i)
  product-row r k c a b h et ev = ev ∙ row_leading (row_of_product (row_of_used a h (bounds k)) (bounds c) b et)

  -- S Aᵀ + Q
  pub spread_row : (r n : Size) (s a q : Rows) {t w : List Float} → i < count r
      → t ≡ row_times_transposed (count n) (row s i) a → w ≡ vec_add 4 t (row q i) → v ≡ pad_row (front r w)
      → v ≡ pad_row (row (add (count r) (count r) (mul (count r) (count n) (count r) (part r n s) (transpose (count r) (count n) (part r n a))) (part r r q)) i)
  spread_row r n s a q h et ew ev =
      let both = row_of_product_transposed (row_of_used s h (bounds n)) (bounds r) a et in
      ev ∙ row_leading (row_of_sum both (row_of_used q h (bounds r)) ew)

  -- A P Aᵀ + Q
  pub propagated-row : (r n : Size) (a p q : Rows) {s t w : List Float} → i < count r
      → s ≡ row_times (count n) (row a i) p → t ≡ row_times_transposed (count n) s a → w ≡ vec_add 4 t (row q i) → v ≡ pad_row (front r w)
      → v ≡ pad_row (row (propagated (count r) (count n) (part r n a) (part n n p) (part r r q)) i)
  unfolding propagated
  propagated-row r n a p q h es et ew ev =
      let left = row_of_product (row_of_used a h (bounds n)) (bounds n) p es in
      let both = row_of_product_transposed left (bounds r) a et in
      ev ∙ row_leading (row_of_sum both (row_of_used q h (bounds r)) ew)

  -- P Hᵀ × W
  pub gain-row : (n m : Size) (p h b : Rows) {s t : List Float} → i < count n
      → s ≡ row_times_transposed (count n) (row p i) h → t ≡ row_times (count m) s b → v ≡ pad_row (front m t)
      → v ≡ pad_row (row (gain (count n) (count m) (part n n p) (part m n h) (part m m b)) i)
  unfolding gain
  gain-row n m p h b l es et ev = ev ∙ row_leading (row_of_product (across_row n m p h l es) (bounds m) b et)

-- I - K H, with the identity e
pub rest-row : (n m : Size) (k h e : Rows) {i : ℕ} {s t : List Float} → i < count n → e ≡ identity 4 → s ≡ row_times (count m) (row k i) h → t ≡ vec_sub 4 (row e i) s
    → RowOf (count n) (count n) (sub (count n) (count n) (identity (count n)) (mul (count n) (count m) (count n) (part n m k) (part m n h))) i t
rest-row n m k h e l ee es et = row_of_difference (row_of_identity l (bounds n) ee) (row_of_product (row_of_used k l (bounds m)) (bounds n) h es) et

-- (I - K H) × P
pub corrected-row : (n m : Size) (k h p e : Rows) {i : ℕ} {s t w v : List Float} → i < count n → e ≡ identity 4
    → s ≡ row_times (count m) (row k i) h → t ≡ vec_sub 4 (row e i) s → w ≡ row_times (count n) t p → v ≡ pad_row (front n w)
    → v ≡ pad_row (row (corrected_covariance (count n) (count m) (part n m k) (part m n h) (part n n p)) i)
unfolding corrected_covariance
corrected-row n m k h p e l ee es et ew ev = ev ∙ row_leading (row_of_product (rest-row n m k h e l ee es et) (bounds n) p ew)

-- four rows are the matrix
pub rows-used : {A : Matrix} {s0 s1 s2 s3 : List Float} → Shape 4 4 A → RowOf 4 4 A 0 s0 → RowOf 4 4 A 1 s1 → RowOf 4 4 A 2 s2 → RowOf 4 4 A 3 s3
    → used 4 4 (s0 ∷ s1 ∷ s2 ∷ s3 ∷ []) ≡ A
unfolding used
rows-used h a b c d = (λ i. a.is i ∷ b.is i ∷ c.is i ∷ d.is i ∷ []) ∙ sym (rows_are h)
