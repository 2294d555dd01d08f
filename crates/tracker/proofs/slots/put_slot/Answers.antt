-- `slots::put_slot` meets its contract: the numbers of the slot overwrite as many.
use native.Mathlib.Omega.{arith}
use Rattle.layout.proofs.Places.{part-placed}
use Rattle.duty.specs.Buffer.{pair_numbers, slot_numbers}
use Rattle.tracker.proofs.slots.put_slot.Goals as goal

pub returns : goal.returns
unfolding pair_numbers slot_numbers
returns c = part-placed c.args.k _ c.args.slots.now c.copy_from_slice.ensures.after (omega arith)
