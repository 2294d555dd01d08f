-- `propagated` meets its contract: the product is stored, and read whole.
use mathlib.Core.Path.{ap, ◌∙◌}
use Rattle.algebra.specs.Matrix.{mul, add, transpose}
use Rattle.algebra.specs.Array.{pad, used}
use Rattle.algebra.proofs.Matrices.{shape-mul}
use Rattle.algebra.proofs.Arrays.{used-pad}
use Rattle.filtering.specs.Filter.{propagated}
use Rattle.four_states.proofs.propagated.Goals as goal

pub returns : goal.returns
unfolding propagated
returns c =
    let x = c.args in
    let is = ap (used 4 4) c.product.ensures ∙ used-pad 4 4 _ (shape-mul 4 4 4 (used 4 4 x.a.now) (used 4 4 x.p.now)) in
    c.spread.ensures ∙ λ i. pad (add 4 4 (mul 4 4 4 (is i) (transpose 4 4 (used 4 4 x.a.now))) (used 4 4 x.q.now))
