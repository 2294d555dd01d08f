-- Laws of arrays of four of which a part is used: `used` and `pad` undo each other, and a loop over the rows. Assumes nothing.
use mathlib.Core.Path.{◌≡◌, refl, sym, ap, ◌∙◌, subst, ap₂, subst⁻¹}
use mathlib.Core.List.{List, [], ◌∷◌, map, ◌++◌, map-append}
use Prim.Native.Nat.{ℕ, zero, suc, ◌+◌, ◌≤◌, ◌<◌, ◌*◌, ◌/◌, ◌%◌}
use native.Mathlib.Nat.{not-suc-le-zero, le_of_suc-le-suc, le_trans}
use native.Mathlib.Omega.{arith}
use lib.ListN.{length, get_or, set, replicate, length-map}
use lib.Ieee.{Float, nan}
use Rattle.scalar.specs.Number.{◌⊗◌, +0, one}
use Rattle.answer.specs.Table.{table, pad_to}
use Rattle.algebra.specs.Matrix.{Vector, Matrix, at, row, cell, mat, sum_of, mul, matvec, transpose, identity}
use Rattle.algebra.specs.Array.{cut, used, pad_row, pad, flat_of_rows, rows_of_flat, used_flat}
use Rattle.answer.proofs.Tables.{length-table, get_or-table, table_ext, table-get_or, get_or-pad_to, map-table, Filling, filling-none, filling-more, filling-all, set-pad_to}
use Rattle.algebra.proofs.Matrices.{sum_ext, Shape, shape-mat, cell-mat, mul_ext, matvec_ext, transpose_ext, both_ext, mat_ext}
use mathlib.Core.Bool.{cond}
use lib.Dec.{eqb}
use Rattle.scalar.proofs.Product.{times-comm}

-- ---- the used part of an array
pub at_cut : (n : ℕ) (v : List Float) (i : ℕ) → i < n → at (cut n v) i ≡ at v i
unfolding cut
at_cut n v i h = get_or-table n (λ j. at v j) i nan h

pub cell-used : (r c : ℕ) (a : List (List Float)) (i j : ℕ) → i < r → j < c → cell (used r c a) i j ≡ cell a i j
unfolding used cut
cell-used r c a i j hi hj = cell-mat r c (λ k l. cell a k l) i j hi hj

pub row-used : (r c : ℕ) (a : List (List Float)) (i : ℕ) → i < r → row (used r c a) i ≡ cut c (row a i)
unfolding used
row-used r c a i h = get_or-table r (λ k. cut c (row a k)) i [] h

pub length_cut : (n : ℕ) (v : List Float) → length (cut n v) ≡ n
unfolding cut
length_cut n v = length-table n (λ j. at v j)

pub shape-used : (r c : ℕ) (a : List (List Float)) → Shape r c (used r c a)
unfolding used cut
shape-used r c a = shape-mat r c (λ i j. cell a i j)

-- ---- cutting what was filled up gives it back
pub cut-pad_row : (n : ℕ) (v : Vector) → length v ≡ n → cut n (pad_row v) ≡ v
unfolding cut
cut-pad_row n v e =
    table_ext n (λ j. at (pad_row v) j) (λ j. at v j) (λ j h. get_or-pad_to 4 +0 v j nan (subst (λ (k : ℕ). j < k) (sym e) h))
    ∙ ap (λ (k : ℕ). cut k v) (sym e)
    ∙ table-get_or v nan

get_or-map_in : (f : List Float → List Float) (m : List (List Float)) (i : ℕ) → i < length m → get_or (map f m) i [] ≡ f (get_or m i [])
get_or-map_in f [] i h = absurd (not-suc-le-zero h)
get_or-map_in f (x ∷ m) zero h = refl
get_or-map_in f (x ∷ m) (suc i) h = get_or-map_in f m i (le_of_suc-le-suc h)

pub used-pad : (r c : ℕ) (A : Matrix) → Shape r c A → used r c (pad A) ≡ A
unfolding used cut pad
used-pad r c A s =
    table_ext r (λ i. cut c (row (pad A) i)) (λ i. row A i)
    (λ i h.
    let l : i < length A = subst (λ (k : ℕ). i < k) (sym s.rows) h in
    ap (cut c)
    (get_or-pad_to 4 (replicate 4 +0) (map pad_row A) i [] (subst (λ (k : ℕ). i < k) (sym (length-map A pad_row)) l)
    ∙ get_or-map_in pad_row A i l)
    ∙ cut-pad_row c (row A i) (s.cols i h))
    ∙ ap (λ (k : ℕ). table k (λ i. row A i)) (sym s.rows)
    ∙ table-get_or A []

-- ---- the used parts: their cells are those that the code reads
pub mul-used : (r k c : ℕ) (a b : List (List Float)) → mul r k c (used r k a) (used k c b) ≡ mat r c (λ i j. sum_of k (λ t. cell a i t ⊗ cell b t j))
unfolding mul
mul-used r k c a b = mul_ext r k c (used r k a) (used k c b) a b (λ i t h g. cell-used r k a i t h g) (λ t j h g. cell-used k c b t j h g)

pub matvec-used : (r c : ℕ) (a : List (List Float)) (v : List Float) → matvec r c (used r c a) (cut c v) ≡ table r (λ i. sum_of c (λ j. cell a i j ⊗ at v j))
unfolding matvec
matvec-used r c a v = matvec_ext r c (used r c a) a (cut c v) v (λ i j h g. cell-used r c a i j h g) (λ j h. at_cut c v j h)

pub transpose-used : (r c : ℕ) (a : List (List Float)) → transpose r c (used r c a) ≡ mat c r (λ i j. cell a j i)
unfolding transpose
transpose-used r c a = transpose_ext r c (used r c a) a (λ i j h g. cell-used r c a i j h g)

pub both_used : (f : Float → Float → Float) (r c : ℕ) (a b : List (List Float))
    → mat r c (λ i j. f (cell (used r c a) i j) (cell (used r c b) i j)) ≡ mat r c (λ i j. f (cell a i j) (cell b i j))
both_used f r c a b = both_ext f r c (used r c a) (used r c b) a b (λ i j h g. cell-used r c a i j h g) (λ i j h g. cell-used r c b i j h g)

-- a times v is v times transposed a: a product does not depend on the order of its factors
pub matvec_transposed_used : (r c : ℕ) (a : List (List Float)) (v : List Float) → matvec r c (used r c a) (cut c v) ≡ table r (λ i. sum_of c (λ t. at v t ⊗ cell a i t))
matvec_transposed_used r c a v =
    matvec-used r c a v
    ∙ table_ext r (λ i. sum_of c (λ t. cell a i t ⊗ at v t)) (λ i. sum_of c (λ t. at v t ⊗ cell a i t))
    (λ i h. sum_ext c (λ t. cell a i t ⊗ at v t) (λ t. at v t ⊗ cell a i t) (λ t g. times-comm (cell a i t) (at v t)))

-- what was made for all sixteen cells, and what was made of all four rows
pub used-mat : (r c : ℕ) (f : ℕ → ℕ → Float) → r ≤ 4 → c ≤ 4 → used r c (mat 4 4 f) ≡ mat r c f
unfolding used cut
used-mat r c f hr hc = mat_ext r c (λ i j. cell (mat 4 4 f) i j) f (λ i j hi hj. cell-mat 4 4 f i j (le_trans hi hr) (le_trans hj hc))

pub used-four : (r c : ℕ) (a : List (List Float)) → r ≤ 4 → used r c (table 4 (λ i. row a i)) ≡ used r c a
unfolding used
used-four r c a h = table_ext r (λ i. cut c (row (table 4 (λ k. row a k)) i)) (λ i. cut c (row a i)) (λ i k. ap (cut c) (get_or-table 4 (λ k. row a k) i [] (le_trans k h)))

pub identity-used : (n : ℕ) → n ≤ 4 → used n n (identity 4) ≡ identity n
unfolding identity
identity-used n h = used-mat n n (λ i j. cond (eqb i j) one +0) h h

-- a matrix is its own used part
pub used_all : (r c : ℕ) (A : Matrix) → Shape r c A → used r c A ≡ A
unfolding used cut
used_all r c A s =
    table_ext r (λ i. cut c (row A i)) (λ i. row A i) (λ i h. ap (λ (k : ℕ). cut k (row A i)) (sym (s.cols i h)) ∙ table-get_or (row A i) nan)
    ∙ ap (λ (k : ℕ). table k (λ i. row A i)) (sym s.rows)
    ∙ table-get_or A []

-- ---- a loop over the rows of a result

-- pad of a table of rows: the form in which the loop leaves it
pub pad-rows : (r : ℕ) (f : ℕ → Vector) → pad_to 4 (replicate 4 +0) (table r (λ i. pad_row (f i))) ≡ pad (table r f)
unfolding pad
pad-rows r f = ap (pad_to 4 (replicate 4 +0)) (sym (map-table pad_row r f))

-- n rows are written out, and n is r: they make A, if A is the table of f
pub rows_at : (n r : ℕ) (f : ℕ → Vector) {A : Matrix} {l : List (List Float)} → n ≡ r → l ≡ pad_to 4 (replicate 4 +0) (table n (λ i. pad_row (f i))) → A ≡ table r f → l ≡ pad A
rows_at n r f e p q = p ∙ pad-rows n f ∙ ap (λ (m : ℕ). pad (table m f)) e ∙ ap pad (sym q)

-- A loop has stored the first i of r rows, which are f: its invariant
pub record Rows (f : ℕ → Vector) (r i : ℕ) (l : List (List Float)) : Type 0 where
  pub within : i ≤ r
  pub filling : Filling 4 (replicate 4 +0) (λ i. pad_row (f i)) r i l

pub rows_none : (f : ℕ → Vector) (r : ℕ) → Rows f r 0 (replicate 4 (replicate 4 +0))
rows_none f r = record { within = omega arith; filling = filling-none 4 (replicate 4 +0) (λ i. pad_row (f i)) r }

pub rows_more : {f : ℕ → Vector} {r i : ℕ} {l : List (List Float)} {v : List Float}
    → Rows f r i l → r ≤ 4 → i < r → v ≡ pad_row (f i) → Rows f r (i + 1) (set l i v)
rows_more e hr hi p = record { within = omega arith; filling = filling-more e.filling hr hi p }

-- at the end it has made A, if A is the table of f
pub rows_all : {f : ℕ → Vector} {r i : ℕ} {l : List (List Float)} {A : Matrix} → Rows f r i l → r ≤ i → A ≡ table r f → l ≡ pad A
rows_all {f} {r} e h p = filling-all e.filling h ∙ pad-rows r f ∙ ap pad (sym p)

-- ---- one row more in an array of rows, and a cell of one
pub set-pad : (L : Matrix) (v : Vector) → length L < 4 → set (pad L) (length L) (pad_row v) ≡ pad (L ++ v ∷ [])
unfolding pad
set-pad L v h =
    ap (λ (k : ℕ). set (pad L) k (pad_row v)) (sym (length-map L pad_row))
    ∙ set-pad_to 4 (replicate 4 +0) (map pad_row L) (pad_row v) (subst⁻¹ (λ (k : ℕ). k < 4) (length-map L pad_row) h)
    ∙ ap (pad_to 4 (replicate 4 +0)) (sym (map-append pad_row L (v ∷ [])))

pub cell-pad : (r c : ℕ) (A : Matrix) (i j : ℕ) → Shape r c A → i < r → j < c → cell (pad A) i j ≡ cell A i j
cell-pad r c A i j s hi hj = sym (cell-used r c (pad A) i j hi hj) ∙ ap (λ (M : Matrix). cell M i j) (used-pad r c A s)

-- ---- four rows of four that stand flat
pub used-rows_of_flat : (r c : ℕ) (f : List Float) → r ≤ 4 → c ≤ 4 → used r c (rows_of_flat f) ≡ used_flat r c f
unfolding used cut used_flat rows_of_flat
used-rows_of_flat r c f hr hc =
    mat_ext r c (λ i j. cell (rows_of_flat f) i j) (λ i j. get_or f (i * 4 + j) nan) (λ i j h g. cell-mat 4 4 (λ p q. get_or f (p * 4 + q) nan) i j (omega arith) (omega arith))

used_flat-flat_of_rows : (r c : ℕ) (a : List (List Float)) → r ≤ 4 → c ≤ 4 → used_flat r c (flat_of_rows a) ≡ used r c a
unfolding used cut used_flat flat_of_rows
used_flat-flat_of_rows r c a hr hc =
    mat_ext r c (λ i j. get_or (flat_of_rows a) (i * 4 + j) nan) (λ i j. cell a i j)
    (λ i j h g.
    let d : (i * 4 + j) / 4 ≡ i = omega arith in
    let m : (i * 4 + j) % 4 ≡ j = omega arith in
    get_or-table 16 (λ n. cell a (n / 4) (n % 4)) (i * 4 + j) nan (omega arith) ∙ ap₂ (λ (p q : ℕ). cell a p q) d m)

pub used_flat-pad : (r c : ℕ) (A : Matrix) → Shape r c A → r ≤ 4 → c ≤ 4 → used_flat r c (flat_of_rows (pad A)) ≡ A
used_flat-pad r c A s hr hc = used_flat-flat_of_rows r c (pad A) hr hc ∙ used-pad r c A s
