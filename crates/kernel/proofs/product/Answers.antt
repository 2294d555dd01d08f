-- `product` meets its contract: row after row is written out, up to the number of rows.
use Prim.Native.Nat.{ℕ}
use mathlib.Core.Path.{◌≡◌, ◌∙◌}
use mathlib.Core.List.{List, [], ◌∷◌}
use lib.ListN.{replicate}
use lib.Ieee.{Float}
use Rattle.scalar.specs.Number.{◌⊗◌, +0}
use Rattle.answer.specs.Table.{table}
use Rattle.algebra.specs.Matrix.{row, cell, sum_of}
use Rattle.algebra.specs.Array.{pad_row}
use Rattle.algebra.proofs.Arrays.{rows_at, mul-used}
use Rattle.sizes.specs.declared.Size.{Size}
use Rattle.sizes.specs.Size.{count, front}
use Rattle.rows.specs.Row.{row_times}
use Rattle.sizes.proofs.Sizes.{bounds, exactly, is_one, is_four}
use Rattle.rows.proofs.Kernels.{leading_row}
use Rattle.kernel.proofs.product.Goals as goal

abbrev none : List Float
none = replicate 4 +0

module _ (k c : Size) (a b : List (List Float)) where
  -- row i of the product
  abbrev row_of : ℕ → List Float
  row_of i = table (count c) (λ j. sum_of (count k) (λ t. cell a i t ⊗ cell b t j))

  made : (i : ℕ) {s v : List Float} → s ≡ row_times (count k) (row a i) b → v ≡ pad_row (front c s) → v ≡ pad_row (row_of i)
  unfolding row_times
  made i e p = p ∙ leading_row _ _ _ (bounds c).most e

pub returns-then-rows-lt2 : goal.returns-then-rows-lt2
returns-then-rows-lt2 c =
    let x = c.args in
    let r0 = made x.k x.c x.a.now x.b.now 0 c.row_product.ensures c.leading-r0.ensures in
    rows_at 1 _ (row_of x.k x.c x.a.now x.b.now) (is_one x.r c.from-rows.ensures c.if-rows-lt2.true) (λ i. r0 i ∷ none ∷ none ∷ none ∷ []) (mul-used _ _ _ _ _)

pub returns-then-rows-lt3 : goal.returns-then-rows-lt3
returns-then-rows-lt3 c =
    let x = c.args in
    let r0 = made x.k x.c x.a.now x.b.now 0 c.row_product.ensures c.leading-r0.ensures in
    let r1 = made x.k x.c x.a.now x.b.now 1 c.row_product-2.ensures c.leading-r1.ensures in
    rows_at 2 _ (row_of x.k x.c x.a.now x.b.now) (exactly 2 c.from-rows.ensures c.if-rows-lt2.false c.if-rows-lt3.true) (λ i. r0 i ∷ r1 i ∷ none ∷ none ∷ []) (mul-used _ _ _ _ _)

pub returns-then-rows-lt4 : goal.returns-then-rows-lt4
returns-then-rows-lt4 c =
    let x = c.args in
    let r0 = made x.k x.c x.a.now x.b.now 0 c.row_product.ensures c.leading-r0.ensures in
    let r1 = made x.k x.c x.a.now x.b.now 1 c.row_product-2.ensures c.leading-r1.ensures in
    let r2 = made x.k x.c x.a.now x.b.now 2 c.row_product-3.ensures c.leading-r2.ensures in
    rows_at 3 _ (row_of x.k x.c x.a.now x.b.now) (exactly 3 c.from-rows.ensures c.if-rows-lt3.false c.if-rows-lt4.true) (λ i. r0 i ∷ r1 i ∷ r2 i ∷ none ∷ []) (mul-used _ _ _ _ _)

pub returns : goal.returns
returns c =
    let x = c.args in
    let r0 = made x.k x.c x.a.now x.b.now 0 c.row_product.ensures c.leading-r0.ensures in
    let r1 = made x.k x.c x.a.now x.b.now 1 c.row_product-2.ensures c.leading-r1.ensures in
    let r2 = made x.k x.c x.a.now x.b.now 2 c.row_product-3.ensures c.leading-r2.ensures in
    let r3 = made x.k x.c x.a.now x.b.now 3 c.row_product-4.ensures c.leading-r3.ensures in
    rows_at 4 _ (row_of x.k x.c x.a.now x.b.now) (is_four x.r c.from-rows.ensures c.if-rows-lt4.false) (λ i. r0 i ∷ r1 i ∷ r2 i ∷ r3 i ∷ []) (mul-used _ _ _ _ _)
