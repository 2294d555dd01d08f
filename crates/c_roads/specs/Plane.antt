-- The sizes that are written out beside those of one road. Definitions only.
use Rattle.std.specs.Prelude.{ℕ, Bool, ◌&&◌, eqb}

-- east and north: four states, two measurements and two inputs
unfoldable pub is_plane : ℕ → ℕ → ℕ → Bool
is_plane n m i = eqb n 4 && (eqb m 2 && eqb i 2)
