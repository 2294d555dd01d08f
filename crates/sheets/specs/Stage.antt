-- The stage of whole metres. Definitions only.
use Rattle.std.specs.Prelude.{Bool, true, cond, List, [], ◌∷◌, ℕ, suc, ◌+◌, min, leb, ℤ, pos, negsuc, length}

abbrev pub not_below : ℕ → ℤ → Bool
not_below e (pos m) = leb m e
not_below e (negsuc n) = true

-- how many ends at the start are below z
unfoldable pub passed : List ℕ → ℤ → ℕ
passed [] z = 0
passed (e ∷ es) z = cond (not_below e z) 0 (suc (passed es z))

-- the first stage, from 1, whose end is not below z, else the last
unfoldable pub stage_of : List ℕ → ℤ → ℕ
stage_of es z = min (passed es z + 1) (length es)
