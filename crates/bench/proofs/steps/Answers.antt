-- `steps` meets its contract: after k turns the filter is that of k steps.
use mathlib.Core.Path.{◌≡◌, refl, sym, ap, ◌∙◌}
use Prim.Native.Nat.{ℕ}
use native.Mathlib.Numerals.{add-one}
use native.Mathlib.Omega.{arith}
use lib.Ieee.{Float}
use mathlib.Core.List.{List}
use Rattle.answer.specs.declared.Step.{Step}
use Rattle.kalman.specs.declared.KalmanFilter.{KalmanFilter}
use Rattle.kalman.specs.Record.{predict_of, update_of}
use Rattle.bench.specs.Steps.{steps_of}
use Rattle.bench.proofs.steps.Goals as goal

pub loop-k-init : goal.loop-k-init
unfolding steps_of
loop-k-init c = (omega arith, refl)

pub loop-k-preserved : goal.loop-k-preserved
unfolding steps_of
loop-k-preserved c =
    let l = c.loop-k in
    let a = c.args in (
      omega arith,
      ap (λ (t : Step (List Float) KalmanFilter). t.left) c.update.ensures
          ∙ ap (λ (s : Step (Unit {0}) KalmanFilter). (update_of s.left a.z a.m).left) c.predict.ensures
          ∙ ap (λ (g : KalmanFilter). (update_of (predict_of g a.u a.i).left a.z a.m).left) l.invariant.1
          ∙ ap (λ (k : ℕ). steps_of k a.f a.u a.i a.z a.m) (sym (add-one l.k)),
    )

pub returns : goal.returns
returns c =
    let l = c.loop-k in
    let a = c.args in
    let all : l.k ≡ a.times = omega arith in
    l.invariant.1 ∙ ap (λ (k : ℕ). steps_of k a.f a.u a.i a.z a.m) all
