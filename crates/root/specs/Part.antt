-- The digit-by-digit root: the invariant of one step.
use Rattle.std.specs.Prelude.{◌≡◌, ℕ, ◌+◌, ◌*◌, ◌≤◌, ◌<◌}
use Rattle.root.specs.Weights.{past53, past54}
use Rattle.root.specs.declared.Part.{Part}

-- the number of which `root` and `rest` are root and remainder, with the digits that are left, in units of 2 ^ -54
abbrev pub radicand : Part → ℕ
radicand p = (p.root * p.root + p.rest) * past54 + p.left

pub record Ready (p : Part) : Type 0 where
  pub small : p.root < past53
  pub rest_le : p.rest ≤ p.root + p.root
  pub left_lt : p.left < past54

pub record Step (p r : Part) : Type 0 where
  pub grown : radicand r ≡ 4 * radicand p
  pub root_le : r.root ≤ p.root + p.root + 1
  pub rest_le : r.rest ≤ r.root + r.root
  pub left_lt : r.left < past54
