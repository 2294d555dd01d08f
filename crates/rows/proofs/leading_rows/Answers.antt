-- `leading_rows` meets its contract: row after row is written out, up to the number of rows.
use Prim.Native.Nat.{ℕ}
use mathlib.Core.Path.{refl}
use mathlib.Core.List.{List, [], ◌∷◌}
use lib.ListN.{replicate}
use lib.Ieee.{Float}
use Rattle.scalar.specs.Number.{+0}
use Rattle.algebra.specs.Matrix.{row}
use Rattle.algebra.specs.Array.{used}
use Rattle.algebra.proofs.Arrays.{rows_at}
use Rattle.sizes.specs.declared.Size.{Size}
use Rattle.sizes.specs.Size.{front}
use Rattle.sizes.proofs.Sizes.{exactly, is_one, is_four}
use Rattle.rows.proofs.leading_rows.Goals as goal

abbrev none : List Float
none = replicate 4 +0

-- row i of the result
abbrev row_of : Size → List Float → List Float → List Float → List Float → ℕ → List Float
row_of c r0 r1 r2 r3 i = front c (row (r0 ∷ r1 ∷ r2 ∷ r3 ∷ []) i)

pub returns-then-rows-lt2 : goal.returns-then-rows-lt2
unfolding used
returns-then-rows-lt2 c =
    let x = c.args in
    rows_at 1 _ (row_of x.c x.r0 x.r1 x.r2 x.r3) (is_one x.r c.from-rows.ensures c.if-rows-lt2.true)
    (λ i. c.leading-s0.ensures i ∷ none ∷ none ∷ none ∷ []) refl

pub returns-then-rows-lt3 : goal.returns-then-rows-lt3
unfolding used
returns-then-rows-lt3 c =
    let x = c.args in
    rows_at 2 _ (row_of x.c x.r0 x.r1 x.r2 x.r3) (exactly 2 c.from-rows.ensures c.if-rows-lt2.false c.if-rows-lt3.true)
    (λ i. c.leading-s0.ensures i ∷ c.leading-s1.ensures i ∷ none ∷ none ∷ []) refl

pub returns-then-rows-lt4 : goal.returns-then-rows-lt4
unfolding used
returns-then-rows-lt4 c =
    let x = c.args in
    rows_at 3 _ (row_of x.c x.r0 x.r1 x.r2 x.r3) (exactly 3 c.from-rows.ensures c.if-rows-lt3.false c.if-rows-lt4.true)
    (λ i. c.leading-s0.ensures i ∷ c.leading-s1.ensures i ∷ c.leading-s2.ensures i ∷ none ∷ []) refl

pub returns : goal.returns
unfolding used
returns c =
    let x = c.args in
    rows_at 4 _ (row_of x.c x.r0 x.r1 x.r2 x.r3) (is_four x.r c.from-rows.ensures c.if-rows-lt4.false)
    (λ i. c.leading-s0.ensures i ∷ c.leading-s1.ensures i ∷ c.leading-s2.ensures i ∷ c.leading-s3.ensures i ∷ []) refl
