-- What the loop of `digits` keeps.
use mathlib.Core.Path.{◌≡◌}
use Prim.Native.Nat.{◌+◌, ◌*◌, ◌^◌, ◌≤◌, ◌<◌}
use Rattle.root.specs.Weights.{past54}
use Rattle.root.specs.Part.{radicand}
use Rattle.root.proofs.digits.Given as goal

abbrev pub invariant-loop : goal.invariant-loop
invariant-loop l = (l.counter ≤ 54) × (l.p.root < 2 ^ l.counter) × (l.p.rest ≤ l.p.root + l.p.root) × (l.p.left < past54) × (radicand l.p ≡ l.m * 4 ^ l.counter)
