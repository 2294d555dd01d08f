-- `read_matrix` meets its contract: a loop over the rows.
use mathlib.Core.Path.{refl, ap₂, ◌∙◌}
use Prim.Native.Nat.{ℕ, ◌+◌, ◌*◌}
use native.Mathlib.Omega.{arith}
use Rattle.answer.specs.Table.{table}
use Rattle.algebra.specs.Array.{pad}
use Rattle.algebra.proofs.Arrays.{rows_more, rows_all}
use Rattle.sizes.specs.Size.{count}
use Rattle.layout.specs.Layout.{vector_at}
use Rattle.layout.proofs.read_matrix.Goals as goal

pub loop-i-preserved : goal.loop-i-preserved
loop-i-preserved c = let v = c.loop-i.invariant in (v.0, rows_more v.1 v.0 (omega arith) c.read_vector.ensures)

pub returns : goal.returns
returns c =
    let a = c.args in
    rows_all c.loop-i.invariant.1 (omega arith) refl
    ∙ ap₂ (λ (m w : ℕ). pad (table m (λ i. vector_at (count a.c) a.b.now (a.k + i * w)))) c.from-rows.ensures c.from-columns.ensures
