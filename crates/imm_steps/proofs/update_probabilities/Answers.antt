-- `update_probabilities` meets its contract: by the test of the sum.
use mathlib.Core.Path.{refl, sym, ap, ◌∙◌}
use Rattle.scalar.specs.Number.{◌⊗◌, ◌⊘◌}
use Rattle.answer.proofs.Choice.{cond-true, cond-false}
use Rattle.algebra.specs.Matrix.{at}
use Rattle.algebra.specs.Array.{pad_row}
use Rattle.sizes.specs.Size.{count}
use Rattle.rows.proofs.Kernels.{leading_row}
use Rattle.sizes.proofs.Sizes.{bounds}
use Rattle.imm_steps.proofs.Banks.{products-used, probabilities-used}
use Rattle.imm_steps.proofs.update_probabilities.Goals as goal

pub returns-then-s : goal.returns-then-s
returns-then-s c =
    let a = c.args in
    c.uniform.ensures ∙ ap pad_row (sym (probabilities-used (count a.k) _ a.l a.mu.now (products-used a.k a.mu.now a.l c.from.ensures c.dot-s.ensures) ∙ cond-true _ _ c.if-s.true))

pub returns : goal.returns
returns c =
    let a = c.args in
    let K = count a.k in
    c.leading.ensures
    ∙ leading_row K (λ i. at a.mu.now i ⊗ at a.l i ⊘ c.dot-s.result) _ (bounds a.k).most refl
    ∙ ap pad_row (sym (probabilities-used K _ a.l a.mu.now (products-used a.k a.mu.now a.l c.from.ensures c.dot-s.ensures) ∙ cond-false _ _ c.if-s.false))
