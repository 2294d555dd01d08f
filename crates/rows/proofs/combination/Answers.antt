-- `combination` meets its contract: four sums, written out term by term up to the number of terms.
use mathlib.Core.Path.{◌≡◌, refl}
use mathlib.Core.List.{List, [], ◌∷◌}
use lib.ListN.{replicate}
use lib.Ieee.{Float}
use Rattle.scalar.specs.Number.{+0}
use Rattle.algebra.specs.Matrix.{at, row}
use Rattle.rows.specs.Row.{plus_scaled, row_times}
use Rattle.rows.proofs.Kernels.{sums, sums_none, sums-more, sums_at}
use Rattle.sizes.proofs.Sizes.{exactly, is_one, is_four}
use Rattle.rows.proofs.combination.Goals as goal

-- after one, two and three terms
module _ (v : List Float) (a : List (List Float)) where
  one : {s : List Float} → s ≡ plus_scaled (replicate 4 +0) (at v 0) (row a 0) → s ≡ sums v (row a) 1
  one e = sums-more v (row a) 0 (sums_none v (row a)) refl e

  two : {s t : List Float} → s ≡ plus_scaled (replicate 4 +0) (at v 0) (row a 0) → t ≡ plus_scaled s (at v 1) (row a 1) → t ≡ sums v (row a) 2
  two d e = sums-more v (row a) 1 (one d) refl e

  three : {s t u : List Float} → s ≡ plus_scaled (replicate 4 +0) (at v 0) (row a 0) → t ≡ plus_scaled s (at v 1) (row a 1) → u ≡ plus_scaled t (at v 2) (row a 2)
      → u ≡ sums v (row a) 3
  three d e f = sums-more v (row a) 2 (two d e) refl f

pub returns-then-n-lt2 : goal.returns-then-n-lt2
unfolding row_times
returns-then-n-lt2 c =
    let x = c.args in
    let a = x.r0 ∷ x.r1 ∷ x.r2 ∷ x.r3 ∷ [] in
    sums_at x.v (row a) 1 _ (is_one x.k c.from-n.ensures c.if-n-lt2.true) (one x.v a c.row_plus_scaled-s1.ensures)

pub returns-then-n-lt3 : goal.returns-then-n-lt3
unfolding row_times
returns-then-n-lt3 c =
    let x = c.args in
    let a = x.r0 ∷ x.r1 ∷ x.r2 ∷ x.r3 ∷ [] in
    sums_at x.v (row a) 2 _ (exactly 2 c.from-n.ensures c.if-n-lt2.false c.if-n-lt3.true) (two x.v a c.row_plus_scaled-s1.ensures c.row_plus_scaled-s2.ensures)

pub returns-then-n-lt4 : goal.returns-then-n-lt4
unfolding row_times
returns-then-n-lt4 c =
    let x = c.args in
    let a = x.r0 ∷ x.r1 ∷ x.r2 ∷ x.r3 ∷ [] in
    sums_at x.v (row a) 3 _ (exactly 3 c.from-n.ensures c.if-n-lt3.false c.if-n-lt4.true)
    (three x.v a c.row_plus_scaled-s1.ensures c.row_plus_scaled-s2.ensures c.row_plus_scaled-s3.ensures)

pub returns : goal.returns
unfolding row_times
returns c =
    let x = c.args in
    let a = x.r0 ∷ x.r1 ∷ x.r2 ∷ x.r3 ∷ [] in
    let s = three x.v a c.row_plus_scaled-s1.ensures c.row_plus_scaled-s2.ensures c.row_plus_scaled-s3.ensures in
    sums_at x.v (row a) 4 _ (is_four x.k c.from-n.ensures c.if-n-lt4.false) (sums-more x.v (row a) 3 s refl c.row_plus_scaled.ensures)
