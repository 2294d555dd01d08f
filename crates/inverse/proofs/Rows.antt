-- Laws of the code's operations on rows: what they make of the used part of an array of four rows. Assumes nothing.
use mathlib.Core.Path.{◌≡◌, sym, ap, ◌∙◌, subst}
use mathlib.Core.List.{[]}
use mathlib.Core.Bool.{cond}
use Prim.Native.Nat.{ℕ, ◌+◌, ◌≤◌, ◌<◌}
use native.Mathlib.Nat.{le_trans}
use native.Mathlib.Omega.{arith}
use lib.Dec.{eqb}
use borrow.Author.Tests.{eq-eqb, ne_eqb}
use lib.ListN.{length, set, length-set}
use lib.Seq.{set-get_or}
use lib.Ieee.{Float, nan}
use Rattle.scalar.specs.Number.{◌⊖◌, ◌⊗◌}
use Rattle.answer.proofs.Choice.{cond-true, cond-false}
use Rattle.answer.specs.Table.{table}
use Rattle.algebra.specs.Matrix.{Vector, Matrix, at, row, cell, vec_scale}
use Rattle.algebra.specs.Array.{cut, used}
use Rattle.answer.proofs.Tables.{get_or-table, filled, filled_more, length-filled}
use Rattle.algebra.proofs.Matrices.{mat_ext}
use Rattle.algebra.proofs.Arrays.{cell-used, at_cut}
use Rattle.algebra.specs.Inverse.{swapped, scaled_row, reduced}
use Rattle.inverse.specs.Rows.{Reduce}
use Rattle.inverse.proofs.Stores.{at_cond, cell_set, filled_at, filled-before}

-- ---- rows that change places, and a row times a number
module _ (n : ℕ) (a : Matrix) (long : n ≤ length a) where
  pub swapped-used : (p c : ℕ) → used n n (set (set a p (row a c)) c (row a p)) ≡ swapped n p c a
  unfolding used cut swapped
  swapped-used p c =
      mat_ext n n _ _
      (λ i j hi hj.
      cell_set (set a p (row a c)) c (row a p) i j (subst (λ (k : ℕ). i < k) (sym (length-set a p (row a c))) (le_trans hi long))
      ∙ ap (cond (eqb i c) (cell a p j)) (cell_set a p (row a c) i j (le_trans hi long)))

  pub scaled_used : (c : ℕ) (s : Float) → n ≤ 4 → c < n → used n n (set a c (vec_scale 4 (row a c) s)) ≡ scaled_row n c s (used n n a)
  unfolding used cut scaled_row vec_scale
  scaled_used c s four hc =
      mat_ext n n _ _
      (λ i j hi hj.
      cell_set a c (vec_scale 4 (row a c) s) i j (le_trans hi long)
      ∙ ap (λ (x : Float). cond (eqb i c) x (cell a i j)) (get_or-table 4 (λ j. cell a c j ⊗ s) j nan (le_trans hj four))
      ∙ sym (λ k. cond (eqb i c) (cell-used n n a c j hc hj k ⊗ s) (cell-used n n a i j hi hj k)))

-- ---- the loop that reduces the rows

-- row i of the reduced array, over all four columns
abbrev pub reduced_row : Vector → Matrix → ℕ → ℕ → Vector
reduced_row f a c i = cond (eqb i c) (row a c) (table 4 (λ j. cell a i j ⊖ at f i ⊗ cell a c j))

-- A loop has reduced the first i of four rows: its invariant
pub record Reducing (f : Vector) (a : Matrix) (c i : ℕ) (l : Matrix) : Type 0 where
  pub within : i ≤ 4
  pub is : l ≡ filled i (reduced_row f a c) a

module _ {f : Vector} {a : Matrix} {c i : ℕ} {l : Matrix} (e : Reducing f a c i l) (fits : length a ≡ 4) where
  inside : i < 4 → i < length a
  inside h = subst (λ (k : ℕ). i < k) (sym fits) h

  -- row i is still the array's
  next : i < 4 → row l i ≡ row a i
  next h = ap (λ (m : Matrix). row m i) e.is ∙ filled_at (reduced_row f a c) i a (inside h)

  more : i < 4 → {x : Vector} → x ≡ reduced_row f a c i → Reducing f a c (i + 1) (set l i x)
  more h {x} v = record { within = omega arith; is = filled_more i (reduced_row f a c) a l x (inside h) e.is v }

  pub reducing-stored : i < 4 → (i ≡ c → ⊥) → Reducing f a c (i + 1) (set l i (table 4 (λ j. cell l i j ⊖ at f i ⊗ cell a c j)))
  reducing-stored h d =
      more h
      (ap (λ (v : Vector). table 4 (λ j. at v j ⊖ at f i ⊗ cell a c j)) (next h) ∙ sym (cond-false (row a c) _ (ne_eqb i c d)))

  pub reducing-kept : i < 4 → i ≡ c → Reducing f a c (i + 1) l
  reducing-kept h d =
      subst (λ (m : Matrix). Reducing f a c (i + 1) m) (set-get_or l i [])
      (more h (next h ∙ ap (row a) d ∙ sym (cond-true (row a c) _ (eq-eqb i c d))))

  pub reducing-all : 4 ≤ i → Reduce c f a l
  unfolding used cut reduced
  reducing-all h =
      record {
        is =
            λ n four hc.
            mat_ext n n _ _
            (λ k j hk hj.
            ap (λ (m : Matrix). cell m k j) e.is
            ∙ ap (λ (v : Vector). at v j) (filled-before (reduced_row f a c) i k a (le_trans hk (le_trans four h)))
            ∙ at_cond (eqb k c) (row a c) _ j
            ∙ ap (cond (eqb k c) (cell a c j)) (get_or-table 4 (λ j. cell a k j ⊖ at f k ⊗ cell a c j) j nan (le_trans hj four))
            ∙ sym (λ t. cond (eqb k c) (cell-used n n a c j hc hj t) (cell-used n n a k j hk hj t ⊖ at_cut n f k hk t ⊗ cell-used n n a c j hc hj t)));
        long = ap length e.is ∙ length-filled i (reduced_row f a c) a (subst (λ (k : ℕ). i ≤ k) (sym fits) e.within) ∙ fits;
      }

pub ruleset reductions = (reducing-stored, reducing-kept)
