-- `root::near` is safe: its bits are no NaN's. Its contract says nothing of the guess.
use mathlib.Core.Path.{sym, ◌∙◌}
use native.Mathlib.Omega.{arith}
use lib.Ieee.{binary64}
use lib.Ieee.Fits.{mul-fits}
use Rattle.root.proofs.Patterns.{up_to, plain-bits}
use Rattle.root.proofs.near.Goals as goal

pub float_from_bits-y : goal.float_from_bits-y
float_from_bits-y c = plain-bits _ (omega arith)

pub float_from_bits-s : goal.float_from_bits-s
float_from_bits-s c =
    let u = up_to _ (mul-fits binary64 _ _) (sym c.is_nan.ensures.value ∙ c.if-is_nan.false) in
    plain-bits _ (omega arith)
