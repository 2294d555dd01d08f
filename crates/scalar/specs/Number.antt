-- The numbers: Rust's f64 is IEEE 754-2019 binary64, one rounding to an operation, and all NaNs are one. Definitions only.
use Rattle.std.specs.Prelude.{cond, ℤ, Float, false}
use Rattle.std.specs.Float.{nan, inf, fin, binary64}
use Rattle.std.specs.Float.Ieee.{neg, of_int, of_bits}
use Rattle.std.specs.Float.Ieee as Ieee

infixl 65 ◌⊕◌ ◌⊖◌
infixl 70 ◌⊗◌ ◌⊘◌
abbrev pub ◌⊕◌ : Float → Float → Float
x ⊕ y = Ieee.add binary64 x y

abbrev pub ◌⊖◌ : Float → Float → Float
x ⊖ y = Ieee.sub binary64 x y

abbrev pub ◌⊗◌ : Float → Float → Float
x ⊗ y = Ieee.mul binary64 x y

abbrev pub ◌⊘◌ : Float → Float → Float
x ⊘ y = Ieee.div binary64 x y

-- ---- constants, by their bits
abbrev pub +0 : Float
+0 = of_bits binary64 0

abbrev pub one : Float
one = of_bits binary64 0x3ff0_0000_0000_0000

abbrev pub two : Float
two = of_bits binary64 0x4000_0000_0000_0000

abbrev pub half : Float
half = of_bits binary64 0x3fe0_0000_0000_0000

abbrev pub π : Float
π = of_bits binary64 0x4009_21fb_5444_2d18

-- 2 ^ -52, as the running Rust has it
abbrev pub epsilon : Float
epsilon = of_bits binary64 0x3cb0_0000_0000_0000

-- ---- functions

-- the number without its sign: -0 becomes +0, a NaN stays
unfoldable pub abs : Float → Float
abs nan = nan
abs (inf s) = inf false
abs (fin s m e) = fin false m e

-- x, or the end of lo to hi that it lies beyond; a NaN lies beyond neither
unfoldable pub clamp : Float → Float → Float → Float
clamp x lo hi = cond (Ieee.lt x lo) lo (cond (Ieee.lt hi x) hi x)

unfoldable pub saturated : Float → Float → Float
saturated x limit = clamp x (neg limit) limit

-- a whole number, rounded
abbrev pub of_whole : ℤ → Float
of_whole v = of_int binary64 v
