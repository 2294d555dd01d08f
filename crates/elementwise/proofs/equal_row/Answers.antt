-- `equal_row` meets its contract: `==` of the fronts of two rows (`equal-front`).
use mathlib.Core.Path.{ap, ◌∙◌}
use Prim.Native.Nat.{ℕ}
use native.Mathlib.Omega.{arith}
use lib.Ieee.{eq}
use Rattle.algebra.specs.Matrix.{at, every}
use Rattle.sizes.proofs.Sizes.{bounds}
use Rattle.elementwise.proofs.Cells.{equal-front}
use Rattle.elementwise.proofs.equal_row.Goals as goal

pub returns : goal.returns
returns c =
    let a = c.args in
    let few = (bounds a.n).most in
    c.eq.ensures
    ∙ equal-front c.from-cols.result a.v a.w (omega (arith, c.from-cols.ensures)) (omega (arith, c.from-cols.ensures))
    ∙ ap (λ (k : ℕ). every k (λ j. eq (at a.v j) (at a.w j))) c.from-cols.ensures
