-- Laws of an array of rows into which rows were stored, for any number of rows and columns. Assumes nothing.
use mathlib.Core.Path.{◌≡◌, refl, sym, ap, ◌∙◌, subst}
use mathlib.Core.List.{[]}
use mathlib.Core.Bool.{Bool, true, false, cond}
use Prim.Native.Nat.{ℕ, ◌+◌, ◌<◌}
use native.Mathlib.Nat.{add-zero}
use native.Mathlib.Omega.{arith}
use lib.Dec.{eqb}
use borrow.Author.Tests.{eqb-true, eqb-false}
use lib.ListN.{length, set, drop, get_or-append}
use lib.Seq.{get_or-set_same, get_or-set_other, get_or-append-add, get_or-drop}
use Rattle.answer.specs.Table.{table}
use Rattle.algebra.specs.Matrix.{Vector, Matrix, at, row, cell}
use Rattle.answer.proofs.Tables.{length-table, get_or-table, filled}

-- ---- a cell after a store
row-set : (a : Matrix) (c : ℕ) (x : Vector) (i : ℕ) → i < length a → row (set a c x) i ≡ cond (eqb i c) x (row a i)
row-set a c x i h = pick (eqb i c) refl
  where
    pick : (b : Bool) → eqb i c ≡ b → row (set a c x) i ≡ cond b x (row a i)
    pick true e = ap (λ (k : ℕ). row (set a k x) i) (sym (eqb-true i c e)) ∙ get_or-set_same a i x [] h
    pick false e = get_or-set_other a c i x [] (eqb-false i c e)

pub at_cond : (b : Bool) (v w : Vector) (j : ℕ) → at (cond b v w) j ≡ cond b (at v j) (at w j)
at_cond true v w j = refl
at_cond false v w j = refl

pub cell_set : (a : Matrix) (c : ℕ) (x : Vector) (i j : ℕ) → i < length a → cell (set a c x) i j ≡ cond (eqb i c) (at x j) (cell a i j)
cell_set a c x i j h = ap (λ (v : Vector). at v j) (row-set a c x i h) ∙ at_cond (eqb i c) x (row a i) j

-- ---- a loop that stores f i in row i of d, for i from 0 on, has stored n of them
module _ (f : ℕ → Vector) where
  pub filled_at : (n : ℕ) (d : Matrix) → n < length d → row (filled n f d) n ≡ row d n
  filled_at n d h =
      let e : n ≡ length (table n f) + 0 = omega (arith, length-table n f) in
      ap (row (filled n f d)) e ∙ get_or-append-add (table n f) (drop n d) 0 [] ∙ get_or-drop n d 0 [] ∙ ap (row d) (add-zero n)

  pub filled-before : (n i : ℕ) (d : Matrix) → i < n → row (filled n f d) i ≡ f i
  filled-before n i d h =
      get_or-append (table n f) (drop n d) [] i (subst (λ (k : ℕ). i < k) (sym (length-table n f)) h) ∙ get_or-table n f i [] h
