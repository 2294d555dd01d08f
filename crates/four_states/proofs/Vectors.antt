-- A vector made in four numbers of which n are used: so each sum or product follows from its operands' used numbers. Assumes nothing.
use mathlib.Core.Path.{◌≡◌, refl, sym, ap, ap₂, ◌∙◌}
use mathlib.Core.List.{List}
use Prim.Native.Nat.{ℕ, ◌<◌}
use native.Mathlib.Nat.{le_trans}
use lib.Ieee.{Float, nan}
use Rattle.scalar.specs.Number.{◌⊕◌, ◌⊖◌, ◌⊗◌}
use Rattle.answer.specs.Table.{table}
use Rattle.answer.proofs.Tables.{get_or-table, table_ext}
use Rattle.algebra.specs.Matrix.{Vector, at, cell, sum_of, vec_add, vec_sub, matvec}
use Rattle.algebra.specs.Array.{cut, used, pad_row}
use Rattle.sizes.proofs.Sizes.{Bounds}
use Rattle.rows.specs.Row.{row_times_transposed}
use Rattle.algebra.proofs.Arrays.{at_cut, matvec_transposed_used}

-- the first n of v's four numbers are w
pub record VectorOf (n : ℕ) (w : Vector) (v : List Float) : Type 0 where
  pub size : Bounds n
  pub is : cut n v ≡ w

pub vector_of_cut : {n : ℕ} (v : List Float) → Bounds n → VectorOf n (cut n v) v
vector_of_cut v N = record { size = N; is = refl }

-- four numbers f that agree with the table of g
made : (n : ℕ) (f g : ℕ → Float) {s : List Float} → Bounds n → ((j : ℕ) → j < n → f j ≡ g j) → s ≡ table 4 f → cut n s ≡ table n g
unfolding cut
made n f g N p e = ap (cut n) e ∙ table_ext n (λ j. at (table 4 f) j) g (λ j h. get_or-table 4 f j nan (le_trans h N.most) ∙ p j h)

at_of : {n : ℕ} {w : Vector} {v : List Float} → VectorOf n w v → (j : ℕ) → j < n → at v j ≡ at w j
at_of {n} {w} {v} a j h = sym (at_cut n v j h) ∙ ap (λ (u : Vector). at u j) a.is

module _ {n : ℕ} {A B : Vector} {v w s : List Float} (a : VectorOf n A v) (b : VectorOf n B w) where
  both : (f : Float → Float → Float) → s ≡ table 4 (λ j. f (at v j) (at w j)) → VectorOf n (table n (λ j. f (at A j) (at B j))) s
  both f e = record { size = a.size; is = made n _ (λ j. f (at A j) (at B j)) a.size (λ j h. ap₂ f (at_of a j h) (at_of b j h)) e }

  pub vector_of_sum : s ≡ vec_add 4 v w → VectorOf n (vec_add n A B) s
  unfolding vec_add
  vector_of_sum e = both (λ x y. x ⊕ y) e

  pub vector_of_difference : s ≡ vec_sub 4 v w → VectorOf n (vec_sub n A B) s
  unfolding vec_sub
  vector_of_difference e = both (λ x y. x ⊖ y) e

pub vector_of_product : {r : ℕ} (c : ℕ) (a : List (List Float)) (v : List Float) {s : List Float} → Bounds r → s ≡ row_times_transposed c v a
    → VectorOf r (matvec r c (used r c a) (cut c v)) s
unfolding row_times_transposed
vector_of_product {r} c a v R e = record {
  size = R;
  is = made r (λ i. sum_of c (λ t. at v t ⊗ cell a i t)) (λ i. sum_of c (λ t. at v t ⊗ cell a i t)) R (λ j h. refl) e
      ∙ sym (matvec_transposed_used r c a v);
}

-- the numbers, and +0 behind them
pub vector_leading : {n : ℕ} {w : Vector} {v : List Float} → VectorOf n w v → pad_row (cut n v) ≡ pad_row w
vector_leading a = ap pad_row a.is
