-- `matmul` meets its contract: the sizes of a call whose test is passed are those of the kernel.
use mathlib.Core.Path.{◌∙◌}
use Rattle.algebra.specs.Matrix.{mul}
use Rattle.algebra.specs.Array.{used, pad}
use Rattle.matrix.proofs.Results.{chain_given, matrix-answered}
use Rattle.matrix.proofs.matmul.Goals as goal

pub returns : goal.returns
returns c =
    let a = c.args in
    let s = chain_given _ _ _ _ c.chain.ensures c.in_ok-r.was in
    matrix-answered (mul a.ar a.ac a.bc (used a.ar a.ac a.a) (used a.ac a.bc a.b)) s.passed
    (c.product.ensures ∙ λ i. pad (mul (s.rows i) (s.inner i) (s.cols i) (used (s.rows i) (s.inner i) a.a) (used (s.inner i) (s.cols i) a.b)))
