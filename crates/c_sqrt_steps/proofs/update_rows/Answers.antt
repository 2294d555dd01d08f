-- `update_rows` meets its contract: by the tests of the slices, and by the answer.
use mathlib.Core.Path.{◌≡◌, sym, ap, ◌∙◌}
use mathlib.Core.Bool.{Bool}
use mathlib.Core.List.{List}
use Prim.Native.Nat.{ℕ}
use lib.Ieee.{Float}
use Rattle.std.proofs.Common.{rules}
use Rattle.std.specs.Prelude.{Err}
use Rattle.answer.specs.Answer.{Answer}
use Rattle.answer.specs.Outcome.{if_fitting}
use Rattle.filtering.specs.SquareRoot.{update}
use Rattle.c_copies.proofs.Filters.{step_given, length_given, with-passed}
use Rattle.c_sqrt_kalman.specs.Root.{factored_at}
use Rattle.c_sqrt_steps.specs.Step.{channel_at, outcome_in}
use Rattle.c_sqrt_steps.proofs.Steps.{updates, refuses}
use Rattle.c_sqrt_steps.proofs.update_rows.Goals as goal

-- what is told and left, by the test of the sizes
abbrev by : ℕ → ℕ → ℕ → List Float → List Float → List Float → Bool → Answer (Unit {0}) × (List Float × List Float)
by n m i f z y t = outcome_in n m i f y (if_fitting t (update (channel_at n m i f) z (factored_at n m i f)))

pub returns-in_err-y : goal.returns-in_err-y
returns-in_err-y c =
    let a = c.args in
    let f = a.filter.now in
    let y = a.innovation.now in
    let s = step_given (λ m. 1) _ _ _ _ _ _ c.in_ok-at.ensures in
    let e : c.from_residual-in_err-y.result ≡ Err c.in_err-y.field-0.0 = search rules in
    (λ t. (e t, (c.put_pair.new.b, y)))
    ∙ refuses f s.at a.z.now s.same c.matrix_at-h.ensures c.vector_at-r.ensures c.vector_at-v.ensures c.vector_at-x.ensures c.matrix_at-s.ensures c.update-answer.ensures c.put_pair.ensures y c.in_err-y.was
    ∙ ap (by a.n a.m a.i f a.z.now y) (sym (with-passed (λ m. 1) _ _ _ _ _ _ s.passed (length_given c.in_ok-fits.ensures)))

pub returns : goal.returns
returns c =
    let a = c.args in
    let f = a.filter.now in
    let y = a.innovation.now in
    let s = step_given (λ m. 1) _ _ _ _ _ _ c.in_ok-at.ensures in
    let l = length_given c.in_ok-fits.ensures in
    updates f s.at a.z.now s.same c.matrix_at-h.ensures c.vector_at-r.ensures c.vector_at-v.ensures c.vector_at-x.ensures c.matrix_at-s.ensures c.update-answer.ensures c.put_pair.ensures
    y l c.in_ok-y.was c.put_vector.ensures
    ∙ ap (by a.n a.m a.i f a.z.now y) (sym (with-passed (λ m. 1) _ _ _ _ _ _ s.passed l))
