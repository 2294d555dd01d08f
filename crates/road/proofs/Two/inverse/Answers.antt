-- `inverse` meets its contract: the four cells of a matrix of two rows of two.
use mathlib.Core.Path.{sym, ap, ◌∙◌}
use Rattle.answer.specs.Answer.{mapped}
use Rattle.algebra.specs.Array.{cut, used}
use Rattle.answer.proofs.Exits.{exit}
use Rattle.small_inverse.proofs.Two.{two_read}
use Rattle.road.specs.Road.{matrix_of}
use Rattle.road.proofs.Two.inverse.Goals as goal

pub returns-in_err-a : goal.returns-in_err-a
returns-in_err-a c = ap (mapped matrix_of) (exit c.from_residual.ensures.1) ∙ sym c.in_err-a.was ∙ c.inverse_two.ensures

pub returns : goal.returns
unfolding used cut
returns c = two_read _ (sym c.inverse_two.ensures ∙ c.in_ok-a.was)
