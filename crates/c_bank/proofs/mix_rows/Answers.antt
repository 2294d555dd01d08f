-- `mix_rows` meets its contract: what it reads lies within the bank, and what it leaves is the mixed bank.
use native.Mathlib.Omega.{arith}
use Rattle.std.specs.Prelude.{Ok}
use Rattle.answer.specs.Outcome.{into, handed}
use Rattle.matrix.proofs.Results.{as_answered}
use Rattle.c_bank.specs.Bank.{with_bank, mixed_in}
use Rattle.c_bank.proofs.Banks.{placed_of, rooms_of}
use Rattle.c_bank.proofs.Mixes.{mixes}
use Rattle.c_bank.proofs.mix_rows.Goals as goal

pub returns : goal.returns
returns c =
    let a = c.args in
    let b = a.bank.now in
    let g = placed_of c.of.ensures c.in_ok-places.was in
    let is = mixes c.in_ok-places.places a.m b g g c.each-t.result c.each-x.result c.all_shares-w.result c.mixed_states-s.result c.each-mu.result c.predicted-c.result _ _ _
    c.each-t.ensures c.each-x.ensures c.each-mu.ensures c.predicted-c.ensures c.all_shares-w.ensures c.mixed_states-s.ensures c.put_states.ensures c.mix_covariances.ensures c.put_row.ensures in
    as_answered (λ o. handed (λ w. w) (with_bank a.n a.m a.k b) b (into o)) (mixed_in a.n a.m a.k b) g.passed (λ i. (Ok tt, is i))

pub each-t-requires : goal.each-t-requires
each-t-requires c = omega (arith, (rooms_of (placed_of c.of.ensures c.in_ok-places.was)).transition)

pub each-x-requires : goal.each-x-requires
each-x-requires c = omega (arith, (rooms_of (placed_of c.of.ensures c.in_ok-places.was)).states)

pub each-mu-requires : goal.each-mu-requires
each-mu-requires c = omega (arith, (rooms_of (placed_of c.of.ensures c.in_ok-places.was)).probabilities)

pub put_states-requires : goal.put_states-requires
put_states-requires c = (rooms_of (placed_of c.of.ensures c.in_ok-places.was)).states

pub mix_covariances-requires : goal.mix_covariances-requires
mix_covariances-requires c = let r = rooms_of (placed_of c.of.ensures c.in_ok-places.was) in (r.apart, omega (arith, r.covariances))

pub put_row-requires : goal.put_row-requires
put_row-requires c = omega (arith, (rooms_of (placed_of c.of.ensures c.in_ok-places.was)).probabilities)
