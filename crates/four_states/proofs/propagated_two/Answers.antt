-- `propagated_two` meets its contract: its two rows, and +0 behind them.
use native.Mathlib.Omega.{arith}
use mathlib.Core.Path.{refl}
use mathlib.Core.List.{List, [], ◌∷◌}
use lib.ListN.{replicate}
use lib.Ieee.{Float}
use Rattle.scalar.specs.Number.{+0}
use Rattle.algebra.specs.Matrix.{row}
use Rattle.algebra.specs.Array.{used}
use Rattle.algebra.proofs.Arrays.{rows_at}
use Rattle.sizes.specs.declared.Size.TheVariants.{Two, Four}
use Rattle.rows.proofs.RowWise.{rows_are}
use Rattle.filtering.specs.Filter.{propagated}
use Rattle.filtering.proofs.Shapes.{shape-propagated}
use Rattle.four_states.proofs.Parts.{propagated-row}
use Rattle.four_states.proofs.propagated_two.Goals as goal

abbrev none : List Float
none = replicate 4 +0

pub returns : goal.returns
returns c =
    let a = c.args.a.now in
    let p = c.args.p.now in
    let q = c.args.q.now in
    let r0 = propagated-row Two Four a p q (omega arith) c.row_product-ap0.ensures c.row_product_transposed.ensures c.row_sum-s0.ensures c.leading-r0.ensures in
    let r1 = propagated-row Two Four a p q (omega arith) c.row_product-ap1.ensures c.row_product_transposed-2.ensures c.row_sum-s1.ensures c.leading-r1.ensures in
    rows_at 2 _ (row (propagated 2 4 (used 2 4 a) (used 4 4 p) (used 2 2 q))) refl (λ i. r0 i ∷ r1 i ∷ none ∷ none ∷ []) (rows_are (shape-propagated _ _ _ _ _))
