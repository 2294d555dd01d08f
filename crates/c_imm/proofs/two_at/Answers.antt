-- `two_at` meets its contract: four numbers, each where it stands.
use mathlib.Core.List.{[], ◌∷◌}
use mathlib.Core.Path.{◌≡◌}
use native.Mathlib.Omega.{arith}
use Prim.Native.Nat.{◌+◌, ◌*◌}
use Rattle.algebra.specs.Matrix.{at}
use Rattle.c_imm.proofs.two_at.Goals as goal

pub returns : goal.returns
returns c =
    let b = c.args.b.now in
    let k = c.args.k in
    let e0 : k ≡ k + 0 * 2 + 0 = omega arith in
    let e1 : k + 1 ≡ k + 0 * 2 + 1 = omega arith in
    let e2 : k + 2 ≡ k + 1 * 2 + 0 = omega arith in
    let e3 : k + 3 ≡ k + 1 * 2 + 1 = omega arith in
    λ t. (at b (e0 t) ∷ at b (e1 t) ∷ []) ∷ (at b (e2 t) ∷ at b (e3 t) ∷ []) ∷ []
