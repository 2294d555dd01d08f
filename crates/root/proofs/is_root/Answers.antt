-- `root::is_root` meets its contract: by the exponent's field and the nearest significand.
use mathlib.Core.Path.{◌≡◌, sym, ap, ◌∙◌, subst}
use Prim.Native.Nat.{◌+◌, ◌-◌, ◌*◌, ◌/◌}
use native.Mathlib.Omega.{arith}
use lib.Dec.{T}
use lib.Ieee.{binary64, fits, to_bits, of_bits}
use lib.Ieee.Bits.{of_bits-to_bits}
use Rattle.root.specs.Weights.{hidden}
use Rattle.root.proofs.Patterns.{at_normal}
use Rattle.root.proofs.Scaled.{guess_root}
use Rattle.root.proofs.is_root.Goals as goal

pub returns-then-q-eq1 : goal.returns-then-q-eq1
returns-then-q-eq1 c t =
    let r = c.args.r in
    let k = c.args.e / 2 in
    let q = to_bits binary64 r - k * hidden in
    let same : to_bits binary64 r ≡ k * hidden + q = omega arith in
    let held : T (fits binary64 r) = subst T (sym c.well_formed.1.1.0.1) tt in
    sym (of_bits-to_bits binary64 r held)
    ∙ ap (of_bits binary64) same
    ∙ at_normal q k (omega arith) (omega arith) (omega arith)
    ∙ guess_root c.args.m c.args.e q c.requires.0 c.requires.1 (c.is_nearest.ensures t)
