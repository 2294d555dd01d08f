-- `information_fuse_sensors` meets its contract: sensor by sensor.
use lib.ListN.{length}
use Rattle.std.specs.Prelude.{Ok}
use Rattle.c_copies.proofs.Filters.{step_given}
use Rattle.c_information.specs.Information.{information_at}
use Rattle.c_information.proofs.Calls.{fitted-step}
use Rattle.c_fusion.specs.Fusion.{fused_all_at}
use Rattle.c_fusion.proofs.Fusions.{fusing-begun, fusing-room, fusing-more, fusing-ended}
use Rattle.c_fusion.proofs.information_fuse_sensors.Goals as goal

pub loop-j-init : goal.loop-j-init
loop-j-init c =
    let a = c.args in
    let s = step_given (λ m. m) a.n a.m a.i (length a.filter.now) _ (length a.sensors.now) c.in_ok-at.ensures in
    fusing-begun a.filter.now s.at a.sensors.now a.count s.same c.vector_at-xi.ensures c.matrix_at-omega.ensures

pub loop-j-preserved : goal.loop-j-preserved
loop-j-preserved c = fusing-more c.loop-j.invariant c.loop-j-test.true c.inform_by.ensures

pub returns : goal.returns
returns c =
    let a = c.args in
    let f = a.filter.now in
    let s = step_given (λ m. m) a.n a.m a.i (length f) _ (length a.sensors.now) c.in_ok-at.ensures in
    let is = fusing-ended f s.at c.loop-j.invariant c.loop-j-test.false c.put_pair.ensures in
    fitted-step a.n a.m a.i f (fused_all_at a.n a.m a.count a.sensors.now (information_at a.n a.m a.i f)) s.passed (λ k. (Ok tt, is k))

pub inform_by-requires : goal.inform_by-requires
inform_by-requires c = fusing-room c.loop-j.invariant c.loop-j-test.true
