-- The constants that belong to the number type, as one record: their bits, and the limits of the sizes. Definitions only.
use Rattle.scalar.specs.declared.Constants.{Constants}
use Rattle.scalar.specs.Number.{+0, one, two, half, π, epsilon}

abbrev pub constants : Constants
constants = record {
  zero = +0;
  one = one;
  two = two;
  half = half;
  pi = π;
  epsilon = epsilon;
  states = 4;
  measurements = 4;
  inputs = 4;
  models = 4;
  slots = 64;
}
