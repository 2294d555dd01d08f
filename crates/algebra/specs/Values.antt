-- The numbers of worked cases, as sign, odd part and power of two: so written, two different numbers are told apart at once. Definitions only.
use Rattle.std.specs.Prelude.{true, false, pos, negsuc, Float}
use Rattle.std.specs.Float.{fin}

abbrev pub −0 : Float
−0 = fin true 0 (pos 0)

abbrev pub n0 : Float
n0 = fin false 0 (pos 0)

abbrev pub n1 : Float
n1 = fin false 1 (pos 0)

abbrev pub n2 : Float
n2 = fin false 1 (pos 1)

abbrev pub n3 : Float
n3 = fin false 3 (pos 0)

abbrev pub n4 : Float
n4 = fin false 1 (pos 2)

abbrev pub n5 : Float
n5 = fin false 5 (pos 0)

abbrev pub n9 : Float
n9 = fin false 9 (pos 0)

abbrev pub −1 : Float
−1 = fin true 1 (pos 0)

abbrev pub −2 : Float
−2 = fin true 1 (pos 1)

abbrev pub ½ : Float
½ = fin false 1 (negsuc 0)

abbrev pub ¼ : Float
¼ = fin false 1 (negsuc 1)

abbrev pub ¾ : Float
¾ = fin false 3 (negsuc 1)

-- 1 / 3 rounded, bits 3FD5555555555555; and 1 less that, bits 3FE5555555555556
abbrev pub ⅓ : Float
⅓ = fin false 6004799503160661 (negsuc 53)

abbrev pub −⅓ : Float
−⅓ = fin true 6004799503160661 (negsuc 53)

abbrev pub 1−⅓ : Float
1−⅓ = fin false 3002399751580331 (negsuc 51)

-- 2 ^ -1074 and 2 ^ -537
abbrev pub least : Float
least = fin false 1 (negsuc 1073)

abbrev pub root_of_least : Float
root_of_least = fin false 1 (negsuc 536)

-- bits 3FF6A09E667F3BCD
abbrev pub √2 : Float
√2 = fin false 6369051672525773 (negsuc 51)

-- EPSILON × 1,000,000 is 15,625 × 2 ^ -46, bits 3DEE848000000000; and the number before it, bits 3DEE847FFFFFFFFF
abbrev pub limit_of_pivots : Float
limit_of_pivots = fin false 15625 (negsuc 45)

abbrev pub before_limit : Float
before_limit = fin false 8589934591999999 (negsuc 84)
