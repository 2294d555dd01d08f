-- Laws of a store into an array of rows that was filled up with +0. Assumes nothing.
use mathlib.Core.Path.{◌≡◌, refl, sym, ap, ◌∙◌, subst}
use mathlib.Core.List.{List, [], ◌∷◌, ◌++◌}
use mathlib.Core.Bool.{Bool, true, false, ◌&&◌, cond}
use Prim.Native.Nat.{ℕ, zero, suc, ◌<◌}
use native.Mathlib.Nat.{not-suc-le-zero, le_of_suc-le-suc}
use lib.Dec.{eqb, eqb-zero-suc, eqb-suc-zero, eqb-suc-suc}
use borrow.Author.Tests.{eqb-true}
use lib.ListN.{set, drop, replicate}
use lib.Ieee.{Float}
use Rattle.scalar.specs.Number.{+0}
use Rattle.answer.specs.Table.{table, pad_to}
use Rattle.algebra.specs.Matrix.{Vector, row, cell, mat, set_cell}
use Rattle.algebra.specs.Array.{cut, used, pad_row, pad}
use Rattle.answer.proofs.Tables.{length-table, get_or-table, table_ext, get_or-pad_to, filled-pad}
use Rattle.algebra.proofs.Matrices.{mat_ext}
use Rattle.algebra.proofs.Arrays.{cell-used, pad-rows}

module _ {A : Type 0} where
  -- a store into a table
  set-table : (n : ℕ) (f : ℕ → A) (t : List A) (i : ℕ) (x : A) → i < n → set (table n f ++ t) i x ≡ table n (λ p. cond (eqb p i) x (f p)) ++ t
  set-table zero f t i x h = absurd (not-suc-le-zero h)
  set-table (suc n) f t zero x h = simp eqb-suc-zero
  set-table (suc n) f t (suc i) x h = simp (eqb-zero-suc, eqb-suc-suc) (ap (λ (l : List A). f zero ∷ l) (set-table n (λ p. f (suc p)) t i x (le_of_suc-le-suc h)))

  store_pad_to : (m n : ℕ) (z : A) (f : ℕ → A) (i : ℕ) (x : A) → i < n → set (pad_to m z (table n f)) i x ≡ pad_to m z (table n (λ p. cond (eqb p i) x (f p)))
  store_pad_to m n z f i x h =
      ap (λ (l : List A). set l i x) (sym (filled-pad m n z f))
      ∙ set-table n f (drop n (replicate m z)) i x h
      ∙ filled-pad m n z (λ p. cond (eqb p i) x (f p))

row-pad : (r : ℕ) (f : ℕ → Vector) (i : ℕ) → i < r → row (pad (table r f)) i ≡ pad_row (f i)
row-pad r f i h =
    ap (λ (l : List (List Float)). row l i) (sym (pad-rows r f))
    ∙ get_or-pad_to 4 (replicate 4 +0) (table r (λ k. pad_row (f k))) i [] (subst (λ (k : ℕ). i < k) (sym (length-table r (λ k. pad_row (f k)))) h)
    ∙ get_or-table r (λ k. pad_row (f k)) i [] h

-- row p, where row i was v and x is stored in its column j; b says whether p is i
stored_row : (c i j p : ℕ) (x : Float) (f : ℕ → ℕ → Float) (v : Vector) (b : Bool) → eqb p i ≡ b → j < c → v ≡ pad_row (table c (λ q. f i q))
    → cond b (set v j x) (pad_row (table c (λ q. f p q))) ≡ pad_row (table c (λ q. cond (b && eqb q j) x (f p q)))
stored_row c i j p x f v true e h is =
    ap (λ (l : Vector). set l j x) is
    ∙ store_pad_to 4 c +0 (λ q. f i q) j x h
    ∙ ap (λ (k : ℕ). pad_row (table c (λ q. cond (eqb q j) x (f k q)))) (sym (eqb-true p i e))
stored_row c i j p x f v false e h is = refl

stored-pad : (r c i j : ℕ) (x : Float) (f : ℕ → ℕ → Float) → i < r → j < c
    → set (pad (mat r c f)) i (set (row (pad (mat r c f)) i) j x) ≡ pad (mat r c (λ p q. cond (eqb p i && eqb q j) x (f p q)))
stored-pad r c i j x f hi hj =
    let v = row (pad (mat r c f)) i in
    ap (λ (l : List (List Float)). set l i (set v j x)) (sym (pad-rows r (λ p. table c (λ q. f p q))))
    ∙ store_pad_to 4 r (replicate 4 +0) (λ p. pad_row (table c (λ q. f p q))) i (set v j x) hi
    ∙ ap (pad_to 4 (replicate 4 +0))
    (table_ext r (λ p. cond (eqb p i) (set v j x) (pad_row (table c (λ q. f p q)))) (λ p. pad_row (table c (λ q. cond (eqb p i && eqb q j) x (f p q))))
    (λ p hp. stored_row c i j p x f v (eqb p i) refl hj (row-pad r (λ k. table c (λ q. f k q)) i hi)))
    ∙ pad-rows r (λ p. table c (λ q. cond (eqb p i && eqb q j) x (f p q)))

pub stored-used : (r c i j : ℕ) (x : Float) (a : List (List Float)) {l : List (List Float)} → l ≡ pad (used r c a) → i < r → j < c
    → set l i (set (row l i) j x) ≡ pad (set_cell r c i j x (used r c a))
unfolding used cut set_cell
stored-used r c i j x a e hi hj =
    ap (λ (k : List (List Float)). set k i (set (row k i) j x)) e
    ∙ stored-pad r c i j x (λ p q. cell a p q) hi hj
    ∙ ap pad
    (mat_ext r c (λ p q. cond (eqb p i && eqb q j) x (cell a p q)) (λ p q. cond (eqb p i && eqb q j) x (cell (used r c a) p q))
    (λ p q hp hq. ap (λ (y : Float). cond (eqb p i && eqb q j) x y) (sym (cell-used r c a p q hp hq))))
