-- What the loop of `mix` keeps.
use Prim.Native.Nat.{◌-◌, ◌≤◌}
use mathlib.Core.Path.{◌≡◌}
use lib.ListN.{replicate}
use Rattle.scalar.specs.Number.{+0}
use Rattle.answer.proofs.Tables.{Filling}
use Rattle.algebra.specs.Array.{pad_row, pad}
use Rattle.sizes.specs.Size.{count}
use Rattle.imm_steps.specs.Bank.{Shares}
use Rattle.imm_steps.proofs.Mixes.{mixed}
use Rattle.imm_steps.proofs.mix.Given as goal

abbrev pub invariant-loop-j : goal.invariant-loop-j
invariant-loop-j l =
    (((l.models ≡ count l.k) × (l.models ≤ 4)) × Shares l.k l.t l.mu l.c l.w)
    × (Filling 4 (replicate 4 +0) (λ j'. pad_row (mixed l.n l.k l.t l.x l.p l.mu j').state) (count l.k) l.j l.xs
    × Filling 4 (replicate 4 (replicate 4 +0)) (λ j'. pad (mixed l.n l.k l.t l.x l.p l.mu j').covariance) (count l.k) l.j l.ps)

abbrev pub decreases-loop-j : goal.decreases-loop-j
decreases-loop-j l = l.models - l.j
