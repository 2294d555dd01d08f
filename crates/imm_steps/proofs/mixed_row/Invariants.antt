-- What the loop of `mixed_row` keeps.
use Prim.Native.Nat.{ℕ, ◌-◌, ◌≤◌}
use mathlib.Core.Path.{◌≡◌}
use mathlib.Core.List.{List}
use lib.Ieee.{Float}
use Rattle.scalar.specs.Number.{◌⊕◌, ◌⊖◌, ◌⊗◌, +0}
use Rattle.algebra.specs.Matrix.{at, cell}
use Rattle.sizes.specs.Size.{count}
use Rattle.imm_steps.proofs.Ways.{columns}
use Rattle.imm_steps.proofs.mixed_row.Given as goal

-- term i of column c
abbrev pub term : (p x : List (List Float)) (m y w : List Float) → ℕ → ℕ → Float
term p x m y w i c = (cell p i c ⊕ (+0 ⊕ at y i ⊗ (cell x i c ⊖ at m c))) ⊗ at w i

abbrev pub invariant-loop-i : goal.invariant-loop-i
invariant-loop-i l =
    ((l.models ≡ count l.fn.k) × (l.models ≤ 4)) × ((l.i ≤ l.models) × (l.s ≡ columns (term l.p l.x l.m l.y l.w) l.i))

abbrev pub decreases-loop-i : goal.decreases-loop-i
decreases-loop-i l = l.models - l.i
