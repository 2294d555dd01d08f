-- `write_numbers` meets its contract: a loop that copies.
use native.Mathlib.Omega.{arith}
use Rattle.layout.proofs.Loops.{copying_none, copying_more, copying_all}
use Rattle.layout.proofs.write_numbers.Goals as goal

pub loop-i-init : goal.loop-i-init
loop-i-init c = copying_none _ _ _ c.requires

pub loop-i-preserved : goal.loop-i-preserved
loop-i-preserved c = copying_more c.loop-i.invariant (omega arith)

pub returns : goal.returns
returns c = copying_all c.loop-i.invariant (omega arith)
