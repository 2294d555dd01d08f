-- The absolute value is the number with its sign cleared. Assumes nothing.
use Rattle.std.specs.Prelude.{◌≡◌, false, refl, Float}
use Rattle.std.specs.Float.{nan, inf, fin, float_with_sign}
use Rattle.scalar.specs.Number.{abs}

pub sign_cleared : (x : Float) → float_with_sign false x ≡ abs x
unfolding float_with_sign abs
sign_cleared nan = refl
sign_cleared (inf s) = refl
sign_cleared (fin s m e) = refl
