-- Whole metres as a place: centimetres, of which 2,000,000,000 is the start of the road. Definitions only.
use Rattle.std.specs.Prelude.{cond, ℕ, ℤ, pos, ◌+◌, ◌-◌, ◌*◌, ◌%◌, int_lt, nat_abs}

abbrev pub place_of : ℤ → ℕ
place_of metres = cond (int_lt metres (pos 0)) (2000000000 - 100 * (nat_abs metres % 10000000)) (2000000000 + 100 * (nat_abs metres % 10000000))
