-- `to_flat` meets its contract: a turn stores one number (`Filling`).
use mathlib.Core.Path.{refl}
use Rattle.algebra.specs.Array.{flat_of_rows}
use Rattle.answer.proofs.Tables.{filling-none, filling-more, filling-all}
use native.Mathlib.Omega.{arith}
use Rattle.kernel.proofs.to_flat.Goals as goal

pub loop-n-preserved : goal.loop-n-preserved
loop-n-preserved c = filling-more c.loop-n.invariant (omega arith) (omega arith) refl

pub returns : goal.returns
unfolding flat_of_rows
returns c = filling-all c.loop-n.invariant (omega arith)
