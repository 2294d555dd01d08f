-- Laws of vectors: what a result reads, and how long it is. Assumes nothing.
use mathlib.Core.Path.{◌≡◌, ap, ap₂, ◌∙◌}
use mathlib.Core.List.{List}
use Prim.Native.Nat.{ℕ, ◌<◌}
use lib.ListN.{length}
use lib.Ieee.{Float}
use Rattle.scalar.specs.Number.{◌⊕◌, ◌⊖◌, ◌⊗◌}
use Rattle.scalar.proofs.Product.{times-comm}
use Rattle.answer.specs.Table.{table}
use Rattle.algebra.specs.Matrix.{Vector, Matrix, at, cell, mat, sum_of, vec_add, vec_sub, vec_scale, dot, matvec, outer}
use Rattle.algebra.specs.Array.{cut}
use Rattle.answer.proofs.Tables.{length-table, table_ext}
use Rattle.algebra.proofs.Matrices.{sum_ext, mat_ext}
use Rattle.algebra.proofs.Arrays.{at_cut}

-- ---- the used parts: their components are those that the code reads
pub each-cut : (f : Float → Float) (n : ℕ) (v : List Float) → table n (λ i. f (at (cut n v) i)) ≡ table n (λ i. f (at v i))
each-cut f n v = table_ext n (λ i. f (at (cut n v) i)) (λ i. f (at v i)) (λ i h. ap f (at_cut n v i h))

pub pair-cut : (f : Float → Float → Float) (n : ℕ) (v w : List Float) → table n (λ i. f (at (cut n v) i) (at (cut n w) i)) ≡ table n (λ i. f (at v i) (at w i))
pair-cut f n v w =
    table_ext n (λ i. f (at (cut n v) i) (at (cut n w) i)) (λ i. f (at v i) (at w i)) (λ i h. ap₂ f (at_cut n v i h) (at_cut n w i h))

pub dot_ext : (n : ℕ) (v w v' w' : Vector) → ((t : ℕ) → t < n → at v t ≡ at v' t) → ((t : ℕ) → t < n → at w t ≡ at w' t) → dot n v w ≡ dot n v' w'
unfolding dot
dot_ext n v w v' w' p q =
    sum_ext n (λ t. at v t ⊗ at w t) (λ t. at v' t ⊗ at w' t) (λ t h. ap₂ (λ (x y : Float). x ⊗ y) (p t h) (q t h))

pub dot-cut : (n : ℕ) (v w : List Float) → dot n (cut n v) (cut n w) ≡ dot n v w
dot-cut n v w = dot_ext n (cut n v) (cut n w) v w (at_cut n v) (at_cut n w)

-- row i is w scaled: a product does not depend on the order of its factors
pub outer-cut : (r c : ℕ) (v w : List Float) → outer r c (cut r v) (cut c w) ≡ mat r c (λ i j. at w j ⊗ at v i)
unfolding outer
outer-cut r c v w =
    mat_ext r c (λ i j. at (cut r v) i ⊗ at (cut c w) j) (λ i j. at w j ⊗ at v i)
    (λ i j h g. ap₂ (λ (x y : Float). x ⊗ y) (at_cut r v i h) (at_cut c w j g) ∙ times-comm (at v i) (at w j))

-- ---- how long a result is, and its shape
pub length-vec_add : (n : ℕ) (v w : Vector) → length (vec_add n v w) ≡ n
unfolding vec_add
length-vec_add n v w = length-table n (λ i. at v i ⊕ at w i)

pub length-vec_sub : (n : ℕ) (v w : Vector) → length (vec_sub n v w) ≡ n
unfolding vec_sub
length-vec_sub n v w = length-table n (λ i. at v i ⊖ at w i)

pub length-vec_scale : (n : ℕ) (v : Vector) (s : Float) → length (vec_scale n v s) ≡ n
unfolding vec_scale
length-vec_scale n v s = length-table n (λ i. at v i ⊗ s)

pub length-matvec : (r c : ℕ) (A : Matrix) (v : Vector) → length (matvec r c A v) ≡ r
unfolding matvec
length-matvec r c A v = length-table r (λ i. sum_of c (λ j. cell A i j ⊗ at v j))
