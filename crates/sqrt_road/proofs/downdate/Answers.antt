-- `downdate` meets its contract: by what its two diagonals answer.
use mathlib.Core.Path.{◌≡◌, sym, ◌∙◌}
use Rattle.road.specs.Road.{matrix_of}
use Rattle.std.proofs.Common.{rules}
use Rattle.std.specs.Prelude.{Err}
use Rattle.sqrt_road.proofs.Downdates.{first-refused, second-refused, below, downdated}
use Rattle.sqrt_road.proofs.downdate.Goals as goal

pub returns-in_err-a : goal.returns-in_err-a
returns-in_err-a c =
    let a = c.args in
    let e : c.from_residual.result ≡ Err c.in_err-a.field-0.0 = search rules in
    (λ i. (e i, matrix_of a.l.now)) ∙ first-refused a.l.now a.v a.w (sym c.turned_diagonal.ensures ∙ c.in_err-a.was)

pub returns-in_err-l : goal.returns-in_err-l
returns-in_err-l c =
    let a = c.args in
    let l = a.l.now in
    let d = c.in_ok-a.a in
    let e : c.from_residual-in_err-l.result ≡ Err c.in_err-l.field-0.0 = search rules in
    (λ i. (e i, matrix_of (record { a = d; b = l.b; c = below l a.v a.w d; d = l.d })))
    ∙ second-refused l a.v a.w (sym c.turned_diagonal.ensures ∙ c.in_ok-a.was) (sym c.turned_diagonal-2.ensures ∙ c.in_err-l.was)

pub returns : goal.returns
returns c =
    let a = c.args in
    downdated a.l.now a.v a.w (sym c.turned_diagonal.ensures ∙ c.in_ok-a.was) (sym c.turned_diagonal-2.ensures ∙ c.in_ok-l.was)
