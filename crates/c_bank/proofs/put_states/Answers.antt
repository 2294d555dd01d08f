-- `put_states` meets its contract: a turn puts one model's state.
use native.Mathlib.Omega.{arith}
use mathlib.Core.Path.{refl}
use Rattle.algebra.specs.Matrix.{row}
use Rattle.algebra.proofs.Arrays.{length_cut}
use Rattle.sizes.specs.Size.{count}
use Rattle.sizes.proofs.Sizes.{bounds}
use Rattle.c_bank.proofs.Serials.{serial_none, serial_more, serial_all}
use Rattle.c_bank.proofs.put_states.Goals as goal

pub loop-j-init : goal.loop-j-init
loop-j-init c =
    let a = c.args in
    serial_none _ _ _ _ a.places.k c.from-models.ensures c.requires (λ j. omega (arith, length_cut (count a.places.n) (row a.m.now j), bounds a.places.n))

pub loop-j-preserved : goal.loop-j-preserved
loop-j-preserved c = serial_more c.loop-j.invariant c.loop-j-test.true refl c.put_row.ensures

pub returns : goal.returns
returns c = serial_all c.loop-j.invariant (omega arith) c.from-models.ensures
