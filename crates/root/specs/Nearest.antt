-- What a reader is to believe of the root, for every binary64 (IEEE 754-2019, 5.4.1). Its proof is `correctly_rounded` in proofs/Law.antt. Definitions only.
use Rattle.std.specs.Prelude.{◌≡◌, Bool, true, false, ◌+◌, ◌-◌, ◌*◌, ◌^◌, ◌<◌, T, pos, Float}
use Rattle.std.specs.Float.{nan, inf, fin, binary64}
use Rattle.std.specs.Float.Ieee.{lt, fits, to_bits, of_bits}
use Rattle.std.specs.Float.Ieee.Positive.{positive}
use Rattle.root.specs.Root.{as_whole}

-- the neighbours of a positive value: adjacent values have adjacent bit patterns
abbrev pub next_down : Float → Float
next_down r = of_bits binary64 (to_bits binary64 r - 1)

abbrev pub next_up : Float → Float
next_up r = of_bits binary64 (to_bits binary64 r + 1)

-- r is the value nearest the exact root of x: x lies strictly between the squares of the midpoints between r and its two neighbours.
-- In whole numbers: twice a midpoint is as_whole r + as_whole (neighbour), in units of 2 ^ -1074, and 4 * x is 4 * as_whole x * 2 ^ 1074, in units of 2 ^ -2148.
pub record Nearest (x r : Float) : Type 0 where
  pub is_positive : T (positive r)
  pub is_held : T (fits binary64 r)
  pub over : (as_whole (next_down r) + as_whole r) * (as_whole (next_down r) + as_whole r) < 4 * (as_whole x * 2 ^ 1074)
  pub under : 4 * (as_whole x * 2 ^ 1074) < (as_whole r + as_whole (next_up r)) * (as_whole r + as_whole (next_up r))

pub record CorrectlyRounded (f : Float → Float) : Type 0 where
  -- +0 and -0 give themselves
  pub of_zero : (negative : Bool) → f (fin negative 0 (pos 0)) ≡ fin negative 0 (pos 0)
  pub of_infinity : f (inf false) ≡ inf false
  pub of_nan : f nan ≡ nan
  pub below-zero : (x : Float) → lt x (fin false 0 (pos 0)) ≡ true → f x ≡ nan
  -- a positive finite number gives the nearest value, and no other value is nearest
  pub nearest : (x : Float) → T (fits binary64 x) → T (positive x) → Nearest x (f x)
  pub only : (x r : Float) → T (fits binary64 x) → T (positive x) → Nearest x r → r ≡ f x
  -- the result is a binary64
  pub held : (x : Float) → T (fits binary64 x) → T (fits binary64 (f x))
