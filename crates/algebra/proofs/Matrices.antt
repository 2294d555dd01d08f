-- Laws of sums and of matrices, for sizes that vary: shape, cells, and what a result reads. Assumes nothing.
use lib.Seq.{get_or_at}
use mathlib.Core.Path.{◌≡◌, refl, sym, ap, ap₂, ◌∙◌, subst⁻¹}
use mathlib.Core.Bool.{◌&&◌, cond}
use Prim.Native.Nat.{ℕ, zero, suc, ◌+◌, ◌≤◌, ◌<◌, suc-le-suc}
use native.Mathlib.Nat.{le_of_lt, le_refl, eq-or-lt_of_le, le_of_suc-le-suc}
use native.Mathlib.Numerals.{add-one}
use native.Mathlib.Omega.{arith}
use lib.Dec.{eqb}
use lib.ListN.{length, get_or-append, length-append}
use lib.Ieee.{Float, nan, neg}
use Rattle.scalar.specs.Number.{◌⊕◌, ◌⊗◌, +0, one, ◌⊖◌}
use Rattle.answer.specs.Table.{table}
use Rattle.algebra.specs.Matrix.{Vector, Matrix, at, row, cell, mat, sum_from, sum_of, mul, matvec, transpose, identity, filled, zeros, scale, negated, set_cell, add, outer, sub}
use Rattle.answer.proofs.Tables.{length-table, get_or-table, table_ext}
use mathlib.Core.Logic.{⊎_elim}
use mathlib.Core.List.{◌∷◌, ◌++◌, []}

-- ---- sums
pub sum_from_ext : {s u : Float} (n : ℕ) (f g : ℕ → Float) → s ≡ u → ((t : ℕ) → t < n → f t ≡ g t) → sum_from s n f ≡ sum_from u n g
unfolding sum_from
sum_from_ext zero f g e h = e
sum_from_ext (suc n) f g e h = ap₂ (λ (x y : Float). x ⊕ y) (sum_from_ext n f g e (λ t l. h t (le_of_lt (suc-le-suc l)))) (h n (le_refl (suc n)))

pub sum_ext : (n : ℕ) (f g : ℕ → Float) → ((t : ℕ) → t < n → f t ≡ g t) → sum_of n f ≡ sum_of n g
sum_ext n f g h = sum_from_ext n f g refl h

-- A loop has added the first t of k terms to s₀: its invariant
pub record Summing (s₀ : Float) (f : ℕ → Float) (k t : ℕ) (s : Float) : Type 0 where
  pub within : t ≤ k
  pub is : s ≡ sum_from s₀ t f

pub summing_none : (s₀ : Float) (f : ℕ → Float) (k : ℕ) → Summing s₀ f k 0 s₀
unfolding sum_from
summing_none s₀ f k = record { within = omega arith; is = refl }

pub summing_more : {s₀ : Float} {f : ℕ → Float} {k t : ℕ} {s x : Float} → Summing s₀ f k t s → t < k → x ≡ f t → Summing s₀ f k (t + 1) (s ⊕ x)
unfolding sum_from
summing_more {s₀} {f} {k} {t} {s} {x} e h v =
    record { within = omega arith; is = (λ i. e.is i ⊕ v i) ∙ ap (λ (m : ℕ). sum_from s₀ m f) (sym (add-one t)) }

pub summing_all : {s₀ : Float} {f : ℕ → Float} {k t : ℕ} {s : Float} → Summing s₀ f k t s → k ≤ t → s ≡ sum_from s₀ k f
summing_all {s₀} {f} {k} {t} {s} e h =
    let same : t ≡ k = omega arith in
    e.is ∙ ap (λ (m : ℕ). sum_from s₀ m f) same

-- ---- A has r rows of c numbers each
pub record Shape (r c : ℕ) (A : Matrix) : Type 0 where
  pub rows : length A ≡ r
  pub cols : (i : ℕ) → i < r → length (row A i) ≡ c

pub shape-mat : (r c : ℕ) (f : ℕ → ℕ → Float) → Shape r c (mat r c f)
shape-mat r c f = record {
  rows = length-table r (λ i. table c (λ j. f i j));
  cols = λ i h. ap length (get_or-table r (λ k. table c (λ j. f k j)) i [] h) ∙ length-table c (λ j. f i j);
}

pub shape-mul : (r k c : ℕ) (A B : Matrix) → Shape r c (mul r k c A B)
unfolding mul
shape-mul r k c A B = shape-mat r c (λ i j. sum_of k (λ t. cell A i t ⊗ cell B t j))

pub shape-transpose : (r c : ℕ) (A : Matrix) → Shape c r (transpose r c A)
unfolding transpose
shape-transpose r c A = shape-mat c r (λ i j. cell A j i)

pub shape-identity : (n : ℕ) → Shape n n (identity n)
unfolding identity
shape-identity n = shape-mat n n (λ i j. cond (eqb i j) one +0)

pub shape-filled : (r c : ℕ) (x : Float) → Shape r c (filled r c x)
unfolding filled
shape-filled r c x = shape-mat r c (λ i j. x)

pub shape-zeros : (r c : ℕ) → Shape r c (zeros r c)
unfolding zeros
shape-zeros r c = shape-filled r c +0

pub shape-scale : (r c : ℕ) (A : Matrix) (s : Float) → Shape r c (scale r c A s)
unfolding scale
shape-scale r c A s = shape-mat r c (λ i j. cell A i j ⊗ s)

pub shape-negated : (r c : ℕ) (A : Matrix) → Shape r c (negated r c A)
unfolding negated
shape-negated r c A = shape-scale r c A (neg one)

pub shape-set : (r c i j : ℕ) (x : Float) (A : Matrix) → Shape r c (set_cell r c i j x A)
unfolding set_cell
shape-set r c i j x A = shape-mat r c (λ p q. cond (eqb p i && eqb q j) x (cell A p q))

pub shape-add : (r c : ℕ) (A B : Matrix) → Shape r c (add r c A B)
unfolding add
shape-add r c A B = shape-mat r c (λ i j. cell A i j ⊕ cell B i j)

pub shape-sub : (r c : ℕ) (A B : Matrix) → Shape r c (sub r c A B)
unfolding sub
shape-sub r c A B = shape-mat r c (λ i j. cell A i j ⊖ cell B i j)

pub shape-outer : (r c : ℕ) (v w : Vector) → Shape r c (outer r c v w)
unfolding outer
shape-outer r c v w = shape-mat r c (λ i j. at v i ⊗ at w j)

-- one more row
pub shape-more : {r c : ℕ} {A : Matrix} (v : Vector) → Shape r c A → length v ≡ c → Shape (suc r) c (A ++ v ∷ [])
shape-more {r} {c} {A} v s e = record {
  rows = length-append A (v ∷ []) ∙ (λ i. s.rows i + 1) ∙ add-one r;
  cols = λ i h. ⊎_elim
      (λ q. ap length (get_or_at A v [] [] i (s.rows ∙ sym q)) ∙ e)
      (λ l. ap length (get_or-append A (v ∷ []) [] i (subst⁻¹ (λ (k : ℕ). i < k) s.rows l)) ∙ s.cols i l)
      (eq-or-lt_of_le (le_of_suc-le-suc h));
}

-- ---- cells
pub cell-mat : (r c : ℕ) (f : ℕ → ℕ → Float) (i j : ℕ) → i < r → j < c → cell (mat r c f) i j ≡ f i j
cell-mat r c f i j hi hj = ap (λ (v : Vector). at v j) (get_or-table r (λ k. table c (λ l. f k l)) i [] hi) ∙ get_or-table c (λ l. f i l) j nan hj

pub mat_ext : (r c : ℕ) (f g : ℕ → ℕ → Float) → ((i j : ℕ) → i < r → j < c → f i j ≡ g i j) → mat r c f ≡ mat r c g
mat_ext r c f g h = table_ext r (λ i. table c (λ j. f i j)) (λ i. table c (λ j. g i j)) (λ i hi. table_ext c (λ j. f i j) (λ j. g i j) (λ j hj. h i j hi hj))

-- ---- what a result reads: two operands with the same cells inside the sizes give the same result
pub mul_ext : (r k c : ℕ) (A B A' B' : Matrix) → ((i t : ℕ) → i < r → t < k → cell A i t ≡ cell A' i t) → ((t j : ℕ) → t < k → j < c → cell B t j ≡ cell B' t j)
    → mul r k c A B ≡ mul r k c A' B'
unfolding mul
mul_ext r k c A B A' B' p q =
    mat_ext r c (λ i j. sum_of k (λ t. cell A i t ⊗ cell B t j)) (λ i j. sum_of k (λ t. cell A' i t ⊗ cell B' t j))
    (λ i j h g. sum_ext k (λ t. cell A i t ⊗ cell B t j) (λ t. cell A' i t ⊗ cell B' t j) (λ t m. ap₂ (λ (x y : Float). x ⊗ y) (p i t h m) (q t j m g)))

pub matvec_ext : (r c : ℕ) (A A' : Matrix) (v v' : Vector) → ((i j : ℕ) → i < r → j < c → cell A i j ≡ cell A' i j) → ((j : ℕ) → j < c → at v j ≡ at v' j)
    → matvec r c A v ≡ matvec r c A' v'
unfolding matvec
matvec_ext r c A A' v v' p q =
    table_ext r (λ i. sum_of c (λ j. cell A i j ⊗ at v j)) (λ i. sum_of c (λ j. cell A' i j ⊗ at v' j))
    (λ i h. sum_ext c (λ j. cell A i j ⊗ at v j) (λ j. cell A' i j ⊗ at v' j) (λ j g. ap₂ (λ (x y : Float). x ⊗ y) (p i j h g) (q j g)))

pub transpose_ext : (r c : ℕ) (A A' : Matrix) → ((i j : ℕ) → i < r → j < c → cell A i j ≡ cell A' i j) → transpose r c A ≡ transpose r c A'
unfolding transpose
transpose_ext r c A A' p = mat_ext c r (λ i j. cell A j i) (λ i j. cell A' j i) (λ i j h g. p j i g h)

-- a matrix of what f makes of the cells of two
pub both_ext : (f : Float → Float → Float) (r c : ℕ) (A B A' B' : Matrix) → ((i j : ℕ) → i < r → j < c → cell A i j ≡ cell A' i j) → ((i j : ℕ) → i < r → j < c → cell B i j ≡ cell B' i j)
    → mat r c (λ i j. f (cell A i j) (cell B i j)) ≡ mat r c (λ i j. f (cell A' i j) (cell B' i j))
both_ext f r c A B A' B' p q =
    mat_ext r c (λ i j. f (cell A i j) (cell B i j)) (λ i j. f (cell A' i j) (cell B' i j)) (λ i j h g. ap₂ f (p i j h g) (q i j h g))
