-- `shares` meets its contract: each way out has a weight for each model that is there.
use mathlib.Core.Path.{◌≡◌}
use mathlib.Core.List.{[], ◌∷◌}
use Prim.Native.Nat.{ℕ, ◌<◌}
use native.Mathlib.Omega.{arith}
use Rattle.std.proofs.lemmas.Grind.{common_steps}
use Rattle.scalar.specs.Number.{+0}
use Rattle.algebra.specs.Matrix.{at}
use Rattle.sizes.specs.Size.{count}
use Rattle.sizes.proofs.Sizes.{bounds}
use Rattle.imm_steps.specs.Bank.{share_of}
use Rattle.imm_steps.proofs.Ways.{first_are}
use Rattle.imm_steps.proofs.shares.Goals as goal

pub returns-then-from-lt3 : goal.returns-then-from-lt3
returns-then-from-lt3 c =
    let a = c.args in
    let v = c.share-a.result ∷ c.share-b.result ∷ +0 ∷ +0 ∷ [] in
    first_are (count a.k) v (λ j. share_of a.m (at a.t j) (at a.c j)) (λ j h. grind (arith, common_steps))

pub returns : goal.returns
returns c =
    let a = c.args in
    let b = bounds a.k in
    let v = c.share-a.result ∷ c.share-b.result ∷ c.share-d.result ∷ c.share-e.result ∷ [] in
    first_are (count a.k) v (λ j. share_of a.m (at a.t j) (at a.c j)) (λ j h. grind (arith, common_steps))
