-- A position as whole metres: rounded down, within seven digits. Definitions only.
use Rattle.std.specs.Prelude.{Bool, true, false, cond, ℕ, zero, suc, ◌+◌, ◌-◌, ◌*◌, ◌/◌, leb, ℤ, pos, negsuc, Float, Option, None, Some}
use Rattle.std.specs.Float.{nan, inf, fin}
use Rattle.std.specs.Float.Ieee.{up, down}

-- a whole number by its sign and its size
abbrev pub signed : Bool → ℕ → ℤ
signed false m = pos m
signed true zero = pos zero
signed true (suc n) = negsuc n

-- rounded down to a whole number; the float's size is m * up e / down e
unfoldable pub floor_of : Float → Option ℤ
floor_of nan = None
floor_of (inf s) = None
floor_of (fin false m e) = Some (pos (m * up e / down e))
floor_of (fin true m e) = Some (signed true ((m * up e + (down e - 1)) / down e))

-- whole metres that a sheet takes and prints
abbrev pub within : ℤ → Bool
within (pos m) = leb m 9999999
within (negsuc n) = leb (suc n) 9999999

abbrev pub keep : Option ℤ → Option ℤ
keep None = None
keep (Some z) = cond (within z) (Some z) None

-- none where the position is no number, or its whole metres are out of limits
unfoldable pub metres_of : Float → Option ℤ
metres_of x = keep (floor_of x)
