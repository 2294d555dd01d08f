-- `two::put_two` meets its contract: the numbers of the pair overwrite as many.
use native.Mathlib.Omega.{arith}
use Rattle.layout.proofs.Places.{part-placed}
use Rattle.duty.specs.Buffer.{pair_numbers}
use Rattle.rts_pass.proofs.two.put_two.Goals as goal

pub returns : goal.returns
unfolding pair_numbers
returns c = part-placed c.args.k _ c.args.out.now c.copy_from_slice.ensures.after (omega arith)
