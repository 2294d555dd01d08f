-- Laws of the operations on rows of four numbers: a sum over rows term by term, and a row of which the first numbers are taken. Assumes nothing.
use mathlib.Core.Path.{◌≡◌, refl, sym, ap, ap₂, ◌∙◌}
use mathlib.Core.List.{List, [], ◌∷◌}
use mathlib.Core.Bool.{cond}
use native.Mathlib.Nat.{le_trans}
use Prim.Native.Nat.{ℕ, zero, suc, ◌≤◌, ◌<◌}
use native.Mathlib.Omega.{arith}
use lib.ListN.{replicate, set}
use lib.Ieee.{Float, nan}
use Rattle.scalar.specs.Number.{◌⊗◌, +0}
use Rattle.answer.specs.Table.{table}
use Rattle.algebra.specs.Matrix.{at, cell, mat, sum_of, sum_from}
use Rattle.algebra.specs.Array.{cut, pad_row, pad}
use Rattle.answer.proofs.Tables.{get_or-table, table_ext}
use Rattle.algebra.proofs.Matrices.{sum_ext}
use Rattle.algebra.proofs.Arrays.{used-mat, both_used}
use Rattle.answer.proofs.Choice.{cond-true}
use Rattle.algebra.proofs.Vectors.{each-cut, pair-cut}
use borrow.Author.Tests.{le-leb}
use lib.Dec.{eqb, leb}
use Rattle.sizes.specs.declared.Size.{Size}
use Rattle.sizes.specs.Size.{count, part}
use Rattle.rows.specs.Row.{plus_scaled, row_times}
use Rattle.sizes.proofs.Sizes.{bounds}

-- ---- v times four columns, written out term by term: term t of each sum is at v t times its number in R t
abbrev pub sums : List Float → (ℕ → List Float) → ℕ → List Float
sums v R n = table 4 (λ j. sum_of n (λ t. at v t ⊗ at (R t) j))

pub sums_none : (v : List Float) (R : ℕ → List Float) → replicate 4 +0 ≡ sums v R 0
unfolding sum_from
sums_none v R = refl

pub sums-more : (v : List Float) (R : ℕ → List Float) (t : ℕ) {s w u : List Float} → s ≡ sums v R t → w ≡ R t → u ≡ plus_scaled s (at v t) w → u ≡ sums v R (suc t)
unfolding sum_from plus_scaled
sums-more v R t e r p = p ∙ ap₂ (λ (s w : List Float). plus_scaled s (at v t) w) e r

-- k terms are written out, and k is n
pub sums_at : (v : List Float) (R : ℕ → List Float) (k n : ℕ) {s : List Float} → k ≡ n → s ≡ sums v R k → s ≡ sums v R n
sums_at v R k n e p = p ∙ ap (sums v R) e

-- a combination of four rows is that of the rows R, if those are the four
pub combination_is : (v : List Float) (R : ℕ → List Float) (k : ℕ) {r0 r1 r2 r3 s : List Float} → k ≤ 4 → r0 ≡ R 0 → r1 ≡ R 1 → r2 ≡ R 2 → r3 ≡ R 3
    → s ≡ row_times k v (r0 ∷ r1 ∷ r2 ∷ r3 ∷ []) → s ≡ sums v R k
unfolding row_times
combination_is v R k h e0 e1 e2 e3 p =
    p
    ∙ (λ i. table 4 (λ j. sum_of k (λ t. at v t ⊗ cell (e0 i ∷ e1 i ∷ e2 i ∷ e3 i ∷ []) t j)))
    ∙ table_ext 4 (λ j. sum_of k (λ t. at v t ⊗ cell (table 4 R) t j)) (λ j. sum_of k (λ t. at v t ⊗ at (R t) j))
    (λ j g. sum_ext k (λ t. at v t ⊗ cell (table 4 R) t j) (λ t. at v t ⊗ at (R t) j)
    (λ t l. ap (λ (r : List Float). at v t ⊗ at r j) (get_or-table 4 R t [] (le_trans l h))))

-- ---- a row of four numbers with x in place i
pub row-with : (f : ℕ → Float) (i : ℕ) (x : Float) → i < 4 → table 4 (λ j. cond (eqb i j) x (f j)) ≡ set (table 4 f) i x
row-with f zero x h = refl
row-with f (suc zero) x h = refl
row-with f (suc (suc zero)) x h = refl
row-with f (suc (suc (suc zero))) x h = refl
row-with f (suc (suc (suc (suc i)))) x h = absurd (omega arith)

-- ---- a row of four numbers, of which the first are taken

-- k is c: for a k that is written out, the left side is the row as the code makes it
pub leading_at : (k c : ℕ) (v : List Float) → k ≡ c → pad_row (cut k v) ≡ pad_row (cut c v)
leading_at k c v e = ap (λ (n : ℕ). pad_row (cut n v)) e

pub leading_row : (c : ℕ) (f : ℕ → Float) (v : List Float) → c ≤ 4 → v ≡ table 4 f → pad_row (cut c v) ≡ pad_row (table c f)
unfolding cut
leading_row c f v s e =
    ap (λ (u : List Float). pad_row (cut c u)) e
    ∙ ap pad_row (table_ext c (λ j. at (table 4 f) j) f (λ j h. get_or-table 4 f j nan (le_trans h s)))

-- what f makes of the numbers of one or of two vectors
pub leading_each : (f : Float → Float) (n : ℕ) (v u : List Float) → n ≤ 4 → u ≡ table 4 (λ i. f (at v i)) → pad_row (cut n u) ≡ pad_row (table n (λ i. f (at (cut n v) i)))
leading_each f n v u h e = leading_row n (λ i. f (at v i)) u h e ∙ ap pad_row (sym (each-cut f n v))

pub leading_pair : (f : Float → Float → Float) (n : ℕ) (v w u : List Float) → n ≤ 4 → u ≡ table 4 (λ i. f (at v i) (at w i))
    → pad_row (cut n u) ≡ pad_row (table n (λ i. f (at (cut n v) i) (at (cut n w) i)))
leading_pair f n v w u h e = leading_row n (λ i. f (at v i) (at w i)) u h e ∙ ap pad_row (sym (pair-cut f n v w))

-- and of the cells of two matrices, row by row
pub leading_both : (f : Float → Float → Float) (r c : Size) (a b : List (List Float)) {r0 r1 r2 r3 : List Float}
    → r0 ≡ table 4 (λ j. f (cell a 0 j) (cell b 0 j)) → r1 ≡ table 4 (λ j. f (cell a 1 j) (cell b 1 j))
    → r2 ≡ table 4 (λ j. f (cell a 2 j) (cell b 2 j)) → r3 ≡ table 4 (λ j. f (cell a 3 j) (cell b 3 j))
    → pad (part r c (r0 ∷ r1 ∷ r2 ∷ r3 ∷ [])) ≡ pad (mat (count r) (count c) (λ i j. f (cell (part r c a) i j) (cell (part r c b) i j)))
leading_both f r c a b e0 e1 e2 e3 =
    (λ i. pad (part r c (e0 i ∷ e1 i ∷ e2 i ∷ e3 i ∷ [])))
    ∙ ap pad (used-mat (count r) (count c) (λ i j. f (cell a i j) (cell b i j)) (bounds r).most (bounds c).most ∙ sym (both_used f (count r) (count c) a b))

-- what a caller has of the kernel's sum where n is at most 4
pub dot-sized : (n : ℕ) {x s : Float} → s ≡ cond (leb n 4) x +0 → n ≤ 4 → s ≡ x
dot-sized n e h = e ∙ cond-true _ _ (le-leb n 4 h)
