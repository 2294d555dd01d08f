-- `update_rows` meets its contract: by the tests of the slices, and by the answer.
use mathlib.Core.Path.{◌≡◌, refl, sym, ap, ◌∙◌}
use mathlib.Core.Bool.{Bool}
use mathlib.Core.List.{List}
use Prim.Native.Nat.{ℕ}
use lib.ListN.{length}
use lib.Ieee.{Float}
use Rattle.std.proofs.Common.{rules}
use Rattle.std.specs.Prelude.{Err}
use Rattle.answer.specs.Answer.{Answer}
use Rattle.answer.specs.declared.Refusal.{Refusal}
use Rattle.answer.specs.Outcome.{if_fitting}
use Rattle.filtering.specs.Linear.{update}
use Rattle.c_copies.specs.Filter.{sensor_at, estimate_at, outcome_in}
use Rattle.c_copies.proofs.Filters.{refused, step_given, length_given, with-passed, with-unfit, step-unfit}
use Rattle.c_copies.proofs.Steps.{updates, refuses}
use Rattle.c_filters.proofs.update_rows.Goals as goal

-- what is told and left: by the test of the sizes, and where the call is refused
abbrev by : ℕ → ℕ → ℕ → List Float → List Float → List Float → Bool → Answer (Unit {0}) × (List Float × List Float)
by n m i f z y t = outcome_in n m i f y (if_fitting t (update (sensor_at n m i f) z (estimate_at n m i f)))

abbrev kept : List Float → List Float → Refusal → Answer (Unit {0}) × (List Float × List Float)
kept f y r = (Err r, (f, y))

pub returns-in_err-at : goal.returns-in_err-at
returns-in_err-at c =
    let a = c.args in
    let f = a.filter.now in
    let y = a.innovation.now in
    let e : c.from_residual.result ≡ Err c.in_err-at.field-0.0 = search rules in
    (λ t. (e t, (f, y)))
    ∙ refused (kept f y) (by a.n a.m a.i f a.z.now y) (step-unfit (λ m. m) a.n a.m a.i (length f) a.m (length a.z.now) a.m (length y) c.in_err-at.ensures) refl

pub returns-in_err-fits : goal.returns-in_err-fits
returns-in_err-fits c =
    let a = c.args in
    let f = a.filter.now in
    let y = a.innovation.now in
    let s = step_given (λ m. m) a.n a.m a.i (length f) a.m (length a.z.now) c.in_ok-at.ensures in
    let e : c.from_residual-in_err-fits.result ≡ Err c.in_err-fits.field-0.0 = search rules in
    (λ t. (e t, (f, y)))
    ∙ refused (kept f y) (by a.n a.m a.i f a.z.now y) (with-unfit (λ m. m) a.n a.m a.i (length f) a.m (length a.z.now) (length y) s.passed refl c.in_err-fits.ensures) refl

pub returns-in_err-y : goal.returns-in_err-y
returns-in_err-y c =
    let a = c.args in
    let f = a.filter.now in
    let y = a.innovation.now in
    let s = step_given (λ m. m) a.n a.m a.i (length f) a.m (length a.z.now) c.in_ok-at.ensures in
    let e : c.from_residual-in_err-y.result ≡ Err c.in_err-y.field-0.0 = search rules in
    (λ t. (e t, (f, y)))
    ∙ refuses f s.at a.z.now s.same c.matrix_at-h.ensures c.matrix_at-r.ensures c.vector_at-v.ensures c.vector_at-x.ensures c.matrix_at-p.ensures c.update.ensures y c.in_err-y.was
    ∙ ap (by a.n a.m a.i f a.z.now y) (sym (with-passed (λ m. m) a.n a.m a.i (length f) a.m (length a.z.now) s.passed (length_given c.in_ok-fits.ensures)))

pub returns : goal.returns
returns c =
    let a = c.args in
    let f = a.filter.now in
    let y = a.innovation.now in
    let s = step_given (λ m. m) a.n a.m a.i (length f) a.m (length a.z.now) c.in_ok-at.ensures in
    let l = length_given c.in_ok-fits.ensures in
    updates f s.at a.z.now s.same c.matrix_at-h.ensures c.matrix_at-r.ensures c.vector_at-v.ensures c.vector_at-x.ensures c.matrix_at-p.ensures c.update.ensures
    y l c.in_ok-y.was c.put_pair.ensures c.put_vector.ensures
    ∙ ap (by a.n a.m a.i f a.z.now y) (sym (with-passed (λ m. m) a.n a.m a.i (length f) a.m (length a.z.now) s.passed l))
