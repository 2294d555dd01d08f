-- `part_in` meets its contract.
use mathlib.Core.Path.{refl}
use native.Mathlib.Omega.{arith}
use Rattle.layout.proofs.Calls.{matrix-used}
use Rattle.c_slices.proofs.part_in.Goals as goal

pub returns : goal.returns
returns c e = matrix-used 0 _ refl refl (omega (arith, e)) c.matrix_at.ensures
