-- `component` meets its contract: by what the test of the variance answers, and the downdate.
use mathlib.Core.Path.{◌≡◌, sym, ap, ◌∙◌}
use Rattle.std.proofs.Common.{rules}
use Rattle.std.specs.Prelude.{Err}
use Rattle.scalar.specs.Number.{◌⊖◌}
use Rattle.answer.specs.Answer.{mapped}
use Rattle.sqrt_steps.proofs.Components.{innovation_is, when_downdated, when_refused}
use Rattle.sqrt_steps.proofs.component.Goals as goal

pub returns : goal.returns
returns c =
    let a = c.args in
    when_downdated a.n a.h.now a.r a.z a.x.now a.l.now c.row_product-t.ensures c.from-k.ensures c.dot-tt.ensures c.variance.ensures
    c.in_ok-s.was (innovation_is a.n a.h.now a.r a.z a.x.now a.l.now c.from-k.ensures c.dot.ensures) c.product_vector-g.ensures
    c.over.ensures c.row_scaled.ensures c.vector_sum.ensures c.sqrt.ensures c.over-2.ensures c.downdate-turned.ensures c.used_part.ensures
    (ap (mapped (λ u. a.z ⊖ c.dot.result)) (sym c.in_ok-turned.was))

pub returns-in_err-turned : goal.returns-in_err-turned
returns-in_err-turned c =
    let a = c.args in
    let e : c.from_residual-in_err-turned.result ≡ Err c.in_err-turned.field-0.0 = search rules in
    when_downdated a.n a.h.now a.r a.z a.x.now a.l.now c.row_product-t.ensures c.from-k.ensures c.dot-tt.ensures c.variance.ensures
    c.in_ok-s.was (innovation_is a.n a.h.now a.r a.z a.x.now a.l.now c.from-k.ensures c.dot.ensures) c.product_vector-g.ensures
    c.over.ensures c.row_scaled.ensures c.vector_sum.ensures c.sqrt.ensures c.over-2.ensures c.downdate-turned.ensures c.used_part.ensures
    (e ∙ ap (mapped (λ u. a.z ⊖ c.dot.result)) (sym c.in_err-turned.was))

pub returns-in_err-s : goal.returns-in_err-s
returns-in_err-s c =
    let a = c.args in
    let e : c.from_residual.result ≡ Err c.in_err-s.field-0.0 = search rules in
    (λ i. (e i, (a.x.now, a.l.now)))
    ∙ when_refused a.n a.h.now a.r a.z a.x.now a.l.now c.row_product-t.ensures c.from-k.ensures c.dot-tt.ensures c.variance.ensures c.in_err-s.was
