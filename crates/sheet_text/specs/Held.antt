-- The field at a place of a text. Definitions only.
use Rattle.std.specs.Prelude.{ℕ, ◌+◌, cond, List, length, ℤ, nat_le, Option, None}
use Rattle.sheets.specs.Line.{field_at}

-- where eight bytes stand
abbrev pub field_in : List ℕ → ℕ → Option ℤ
field_in s at = cond (nat_le (at + 8) (length s)) (field_at s at) None
