-- `mix_roads` meets its contract: the numbers of both models where they stand, mixed and put back.
use Prim.Native.Nat.{◌+◌, ◌≤◌}
use native.Mathlib.Omega.{arith}
use lib.ListN.{length}
use Rattle.std.specs.Prelude.{Ok}
use Rattle.answer.specs.Outcome.{into, handed}
use Rattle.matrix.proofs.Results.{as_answered}
use Rattle.c_bank.specs.Bank.{with_bank, mixed_in}
use Rattle.c_bank.proofs.Banks.{placed_of}
use Rattle.c_imm.proofs.Roads.{roads_put, inside}
use Rattle.c_imm.proofs.mix_roads.Goals as goal

pub returns : goal.returns
returns c =
    let a = c.args in
    let b = a.bank.now in
    let g = placed_of c.of.ensures c.in_ok-places.was in
    let room : c.in_ok-places.places.mu + 2 ≤ length c.put_road-2.new.b = omega (arith, inside g) in
    let is = roads_put a.m b g c.road_at.ensures c.road_at-2.ensures c.two_at.ensures c.mix-mixed.ensures room c.put_road.ensures c.put_road-2.ensures c.put_slice.ensures in
    as_answered (λ o. handed (λ w. w) (with_bank 2 a.m 2 b) b (into o)) (mixed_in 2 a.m 2 b) g.passed (λ i. (Ok tt, is i))

pub road_at-requires : goal.road_at-requires
road_at-requires c = omega (arith, inside (placed_of c.of.ensures c.in_ok-places.was))

pub road_at-requires-2 : goal.road_at-requires-2
road_at-requires-2 c = omega (arith, inside (placed_of c.of.ensures c.in_ok-places.was))

pub offset_bounds-bank-places : goal.offset_bounds-bank-places
offset_bounds-bank-places c = omega (arith, inside (placed_of c.of.ensures c.in_ok-places.was))

pub bounds-bank-places : goal.bounds-bank-places
bounds-bank-places c = omega (arith, inside (placed_of c.of.ensures c.in_ok-places.was))

pub overflow_add-roads : goal.overflow_add-roads
overflow_add-roads c = omega (arith, inside (placed_of c.of.ensures c.in_ok-places.was))

pub offset_bounds-bank-places-2 : goal.offset_bounds-bank-places-2
offset_bounds-bank-places-2 c = omega (arith, inside (placed_of c.of.ensures c.in_ok-places.was))

pub bounds-bank-places-2 : goal.bounds-bank-places-2
bounds-bank-places-2 c = omega (arith, inside (placed_of c.of.ensures c.in_ok-places.was))

pub two_at-requires : goal.two_at-requires
two_at-requires c = omega (arith, inside (placed_of c.of.ensures c.in_ok-places.was))

pub put_road-requires : goal.put_road-requires
put_road-requires c = omega (arith, inside (placed_of c.of.ensures c.in_ok-places.was))

pub put_road-requires-2 : goal.put_road-requires-2
put_road-requires-2 c = omega (arith, inside (placed_of c.of.ensures c.in_ok-places.was))
