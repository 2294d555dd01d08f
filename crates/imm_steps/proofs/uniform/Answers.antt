-- `uniform` meets its contract: one division, and the used numbers taken.
use Prim.Native.Nat.{ℕ}
use mathlib.Core.Path.{refl, ap, ◌∙◌}
use native.Mathlib.Omega.{arith}
use lib.IntN.{pos}
use lib.Ieee.{binary64, of_int}
use Rattle.scalar.specs.Number.{◌⊘◌, one}
use Rattle.answer.specs.Table.{table}
use Rattle.algebra.specs.Array.{pad_row}
use Rattle.sizes.specs.Size.{count}
use Rattle.rows.proofs.Kernels.{leading_row}
use Rattle.sizes.proofs.Sizes.{bounds}
use Rattle.mixing.specs.Mixing.{uniform}
use Rattle.imm_steps.proofs.uniform.Goals as goal

pub returns : goal.returns
unfolding uniform
returns c =
    let a = c.args in
    c.leading.ensures
    ∙ leading_row (count a.k) (λ j. one ⊘ of_int binary64 (pos c.from-models.result)) _ (bounds a.k).most refl
    ∙ ap (λ (m : ℕ). pad_row (table (count a.k) (λ j. one ⊘ of_int binary64 (pos m)))) c.from-models.ensures
