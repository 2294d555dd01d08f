-- `number_or_nan` meets its contract: where there is no number, a NaN is read.
use Rattle.std.proofs.Common.{◌≡◌, rules, refl}
use Rattle.std.specs.Float.{binary64, nan}
use Rattle.std.specs.Float.Ieee.{of_bits}
use Rattle.std.proofs.lemmas.Option.{unwrap_or-slice_get}
use Rattle.protocol.proofs.values.Values.number_or_nan.Goals as goal

missing : of_bits binary64 0x7ff8_0000_0000_0000 ≡ nan
unfolding of_bits
missing = refl

pub returns-clause-value : goal.returns-clause-value
returns-clause-value c = search (rules, unwrap_or-slice_get, missing)
