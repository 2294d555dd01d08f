-- `smooth_slots` meets its contract: the loop has come back to slot k, and x and p hold its smoothed pair.
use mathlib.Core.Path.{◌≡◌, refl, ap, ap₂, ◌∙◌, subst⁻¹}
use Prim.Native.Nat.{ℕ, ◌+◌, ◌*◌, ◌-◌, ◌≤◌}
use native.Mathlib.Omega.{arith}
use lib.ListN.{length}
use Rattle.sizes.specs.Size.{count, part}
use Rattle.filtering.specs.Filter.{Estimate, estimate}
use Rattle.steps.specs.Step.{arrays_of}
use Rattle.answer.proofs.Exits.{exit}
use Rattle.layout.specs.Layout.{pair_length, stride}
use Rattle.duty.specs.Buffer.{pair_at, slot_from}
use Rattle.duty.proofs.Sizes.{part_room}
use Rattle.duty.proofs.Pairs.{pair-placed}
use Rattle.duty.proofs.Passes.{left-done, left-refused, Going, going_start, going_room, going_more, going_stop, going_done}
use Rattle.rts_pass.proofs.Arrays.{state-read, covariance-read, held}
use Rattle.rts_pass.proofs.smooth_slots.Goals as goal

pub loop-k-init : goal.loop-k-init
loop-k-init c =
    let a = c.args in
    let e = c.stride-slot.ensures in
    let k = (a.stored - 1) * c.stride-slot.result in
    let room : k + pair_length (count a.n) ≤ length a.slots.now = omega (arith, part_room {k = a.stored - 1} (stride (count a.n)) (omega arith) c.requires.2 e) in
    going_start _ _ _ _ (omega arith) c.requires.3
    (ap₂ estimate (state-read a.n a.slots.now k room c.vector_at-x.ensures) (covariance-read a.n a.slots.now k room c.from.ensures c.matrix_at-p.ensures)
    ∙ ap (λ (i : ℕ). pair_at (count a.n) a.slots.now ((a.stored - 1) * i)) e)

pub loop-k-preserved : goal.loop-k-preserved
loop-k-preserved c =
    let a = c.args in
    let l = c.loop-k in
    let v = l.invariant in
    let e = c.pair_length-pair.ensures in
    let here : l.k - 1 + 1 ≡ l.k = omega arith in
    let place : (l.k - 1 + 1) * c.pair_length-pair.result ≡ l.k * pair_length (count a.n) = ap₂ (λ (i j : ℕ). i * j) here e in
    let (r, ea, er) = left-done arrays_of _ _ c.step.ensures c.in_ok-step.was in
    let g =
    going_more _ _ _ _ v {j = l.k - 1} (omega arith) (ap (λ (i : ℕ). slot_from (count a.n) a.slots.now ((l.k - 1) * i)) c.stride-slot.ensures) ea place
    (pair-placed _ _ _ _ refl (omega (arith, place, going_room _ _ _ _ v)) c.put_pair.ensures) c.put_pair.auto.b in
    subst⁻¹ (λ (e : Estimate). Going (count a.n) (part a.n a.n a.f.now) a.slots.now a.stored a.out.now (l.k - 1) e c.put_pair.new.b) (held a.n g.paired er) g

pub returns-in_err-step : goal.returns-in_err-step
returns-in_err-step c =
    let a = c.args in
    let l = c.loop-k in
    going_stop _ _ _ _ l.invariant {j = l.k - 1} (omega arith) (ap (λ (i : ℕ). slot_from (count a.n) a.slots.now ((l.k - 1) * i)) c.stride-slot.ensures)
    (left-refused arrays_of _ _ c.step.ensures c.in_err-step.was) (exit c.from_residual.ensures.1)

pub returns : goal.returns
returns c =
    let v = c.loop-k.invariant in
    going_done _ _ _ _ v (omega arith) (pair-placed _ _ _ _ refl (omega (arith, going_room _ _ _ _ v)) c.put_pair-2.ensures)
