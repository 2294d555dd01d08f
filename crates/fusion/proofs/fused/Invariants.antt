-- What the loop of `fused` keeps: the sensors that are left, fused, lead to what all of them lead to.
use Rattle.std.proofs.Common.{length, drop, ◌≡◌, ◌≤◌}
use Rattle.fusion.specs.Fusion.{begun_of, joined_all}
use Rattle.fusion.proofs.Joining.{done_with}
use Rattle.fusion.proofs.fused.Given as goal

abbrev pub invariant-loop-s : goal.invariant-loop-s
invariant-loop-s l = (l.s-index ≤ length l.sensors) × (joined_all (done_with l.g) (drop l.s-index l.sensors) ≡ joined_all (begun_of l.fn.f) l.sensors)
