-- `gathered` meets its contract: the array is filled from the front.
use mathlib.Core.Path.{refl}
use native.Mathlib.Omega.{arith}
use Rattle.answer.proofs.Tables.{filling-more, filling-all}
use Rattle.tracker.proofs.slots.gathered.Goals as goal

pub loop-k-preserved : goal.loop-k-preserved
loop-k-preserved c = filling-more c.loop-k.invariant (omega arith) (omega arith) refl

pub returns : goal.returns
returns c = filling-all c.loop-k.invariant (omega arith)
