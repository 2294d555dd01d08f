-- The premise on EPSILON, in whole numbers: a value is counted in units of 2 ^ -1074, and 1 is 2 ^ 1074 of them. Definitions only.
use Rattle.std.specs.Prelude.{◌*◌, ◌^◌, ◌<◌}
use Rattle.root.specs.Root.{as_whole}
use Rattle.scalar.specs.Number.{epsilon}

-- positive, and below 10 ^ -7
pub record EpsilonPremise : Type 0 where
  pub positive : 0 < as_whole epsilon
  pub small : 10 ^ 7 * as_whole epsilon < 2 ^ 1074
