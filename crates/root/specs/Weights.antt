-- The weights in a binary64 bit pattern (IEEE 754-2019, 3.4): 52 digits, the exponent's field, the sign. Definitions only.
use Rattle.std.specs.Prelude.{ℕ, ◌^◌}

-- the leading digit of a significand, which a pattern does not hold; a step of the exponent's field
abbrev pub hidden : ℕ
hidden = 2 ^ 52

-- one past the numbers of 53 digits, and of 54
abbrev pub past53 : ℕ
past53 = 2 ^ 53

abbrev pub past54 : ℕ
past54 = 2 ^ 54

abbrev pub sign_bit : ℕ
sign_bit = 2 ^ 63

-- how many patterns there are
abbrev pub patterns : ℕ
patterns = 2 ^ 64

-- the pattern of +infinity
abbrev pub infinity : ℕ
infinity = 0x7ff0_0000_0000_0000
