-- `write_matrix` meets its contract: the loop places the rows one after another.
use mathlib.Core.Path.{refl, sym, ap, ap₂, ◌∙◌}
use Prim.Native.Nat.{ℕ, ◌*◌}
use native.Mathlib.Omega.{arith}
use Rattle.answer.specs.Table.{table}
use Rattle.algebra.specs.Matrix.{row}
use Rattle.algebra.specs.Array.{used}
use Rattle.algebra.proofs.Arrays.{length_cut}
use Rattle.sizes.specs.Size.{front}
use Rattle.sizes.proofs.Sizes.{bounds}
use Rattle.layout.specs.Layout.{joined, placed}
use Rattle.layout.proofs.Loops.{putting_none, putting_more, putting_all}
use Rattle.layout.proofs.write_matrix.Goals as goal

pub loop-i-init : goal.loop-i-init
loop-i-init c =
    let e = c.from-columns.ensures in
    let all = ap₂ (λ (m w : ℕ). m * w) c.from-rows.ensures e in
    (omega (arith, c.from-rows.ensures, bounds c.args.r), putting_none _ _ _ _ _ (omega (arith, c.requires, all)) (λ j. length_cut _ _ ∙ sym e))

pub loop-i-preserved : goal.loop-i-preserved
loop-i-preserved c = let v = c.loop-i.invariant in (v.0, putting_more _ v.1 (omega arith) refl c.write_vector.ensures)

pub returns : goal.returns
unfolding used
returns c =
    let a = c.args in
    putting_all c.loop-i.invariant.1 (omega arith)
    ∙ ap (λ (m : ℕ). placed a.k (joined (table m (λ i. front a.c (row a.m.now i)))) a.b.now) c.from-rows.ensures
