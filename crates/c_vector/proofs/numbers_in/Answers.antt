-- `numbers_in` meets its contract: the slice has just these numbers.
use mathlib.Core.Path.{refl, ◌∙◌}
use native.Mathlib.Omega.{arith}
use Rattle.layout.proofs.Calls.{vector-used}
use Rattle.layout.proofs.Rows.{whole-vector}
use Rattle.c_vector.proofs.numbers_in.Goals as goal

pub returns : goal.returns
returns c e = vector-used 0 _ refl (omega (arith, e)) c.vector_at.ensures ∙ whole-vector _ _ e
