-- `information_fuse_sensor` meets its contract: what is read is the filter's and the sensor's own.
use lib.ListN.{length}
use Rattle.std.specs.Prelude.{Ok}
use Rattle.c_information.specs.Information.{information_at}
use Rattle.c_information.proofs.Calls.{fitted-step}
use Rattle.c_fusion.specs.Fusion.{fused_at}
use Rattle.c_fusion.proofs.Sensors.{sensor_given, fuses}
use Rattle.c_fusion.proofs.information_fuse_sensor.Goals as goal

pub returns : goal.returns
returns c =
    let a = c.args in
    let f = a.filter.now in
    let s = sensor_given a.n a.m a.i (length f) (length a.h.now) (length a.r_inv.now) (length a.z.now) c.in_ok-at.ensures in
    let is = fuses f s.at a.h.now a.r_inv.now a.z.now s.sensor s.noise s.measured
    c.matrix_at-hm.ensures c.matrix_at-w.ensures c.vector_at-v.ensures c.vector_at-xi.ensures c.matrix_at-omega.ensures c.inform.ensures c.put_pair.ensures in
    fitted-step a.n a.m a.i f (fused_at a.n a.m a.h.now a.r_inv.now a.z.now (information_at a.n a.m a.i f)) s.passed (λ j. (Ok tt, is j))
