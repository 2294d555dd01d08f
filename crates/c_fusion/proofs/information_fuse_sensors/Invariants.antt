-- What the loop of `information_fuse_sensors` keeps.
use Prim.Native.Nat.{◌-◌}
use Rattle.c_information.specs.Information.{information_at}
use Rattle.c_fusion.proofs.Fusions.{Fusing}
use Rattle.c_fusion.proofs.information_fuse_sensors.Given as goal

abbrev pub invariant-loop-j : goal.invariant-loop-j
invariant-loop-j l = Fusing l.at.n l.at.m l.sensors (information_at l.n l.m l.i l.filter) l.count l.j l.omega l.xi

abbrev pub decreases-loop-j : goal.decreases-loop-j
decreases-loop-j l = l.count - l.j
