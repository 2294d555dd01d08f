-- `fused` meets its contract: a turn takes the first of the sensors that are left.
use Rattle.std.proofs.Common.{◌≡◌, ◌+◌, drop, ap, sym, ◌∙◌, arith}
use Rattle.fusion.specs.Fusion.{Stepped, joined_all, kept_of}
use Rattle.fusion.proofs.Joining.{done_with, begun_sized, begun-unsized, joined-done, joined_more, joined_end, joined-refused, kept-refused}
use Rattle.answer.proofs.Exits.{exit}
use Rattle.fusion.proofs.fused.Goals as goal

pub loop-s-init : goal.loop-s-init
loop-s-init c = (omega arith, ap (λ (g : Stepped). joined_all g c.args.sensors.now) (begun_sized c.args.f _ c.sized.ensures c.in_ok-sized.was))

pub loop-s-preserved : goal.loop-s-preserved
loop-s-preserved c =
    let l = c.args.sensors.now in
    let i = c.loop-s.s-index in (
      omega arith,
      ap (λ (g : Stepped). joined_all g (drop (i + 1) l)) (joined-done c.loop-s.g _ c.fuse_sensor-step.ensures c.in_ok-step.was)
          ∙ joined_more (done_with c.loop-s.g) l i _ c.loop-s-test.true ∙ c.loop-s.invariant.1,
    )

pub returns-in_err-sized : goal.returns-in_err-sized
returns-in_err-sized c =
    let q = begun-unsized c.args.f _ c.sized.ensures c.in_err-sized.was in
    exit c.from_residual.ensures.1 ∙ sym (kept-refused _ q) ∙ ap kept_of (sym (joined-refused c.args.sensors.now _ q))

pub returns-in_err-step : goal.returns-in_err-step
returns-in_err-step c =
    let l = c.args.sensors.now in
    let i = c.loop-s.s-index in
    let g = done_with c.loop-s.g in
    let all = ap (λ (g : Stepped). joined_all g (drop (i + 1) l)) c.fuse_sensor-step.ensures ∙ joined_more g l i _ c.loop-s-test.true ∙ c.loop-s.invariant.1 in
    exit c.from_residual-in_err-step.ensures.1 ∙ sym (kept-refused c.fuse_sensor-step.result c.in_err-step.was)
    ∙ ap kept_of (sym (joined-refused (drop (i + 1) l) c.fuse_sensor-step.result c.in_err-step.was) ∙ all)

pub returns : goal.returns
returns c =
    ap kept_of (sym (joined_end (done_with c.loop-s.g) c.args.sensors.now c.loop-s.s-index c.loop-s-test.false) ∙ c.loop-s.invariant.1)
