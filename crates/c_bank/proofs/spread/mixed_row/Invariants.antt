-- What the loop of `spread::mixed_row` keeps.
use Prim.Native.Nat.{ℕ, ◌-◌, ◌≤◌, ◌<◌}
use mathlib.Core.Path.{◌≡◌}
use mathlib.Core.List.{List}
use lib.Ieee.{Float}
use Rattle.algebra.specs.Matrix.{cell}
use Rattle.sizes.specs.Size.{count}
use Rattle.imm_steps.specs.Bank.{spread_term}
use Rattle.imm_steps.proofs.Ways.{columns}
use Rattle.c_bank.proofs.spread.mixed_row.Given as goal

-- term i of column c
abbrev pub term : (p x m w : List (List Float)) (j r : ℕ) → ℕ → ℕ → Float
term p x m w j r i c = spread_term (cell p i c) (cell x i r) (cell m j r) (cell x i c) (cell m j c) (cell w i j)

abbrev pub invariant-loop-i : goal.invariant-loop-i
invariant-loop-i l =
    ((l.models ≡ count l.fn.k) × (l.models ≤ 4))
    × (((l.j < 4) × (l.r < 4)) × ((l.i ≤ l.models) × (l.s ≡ columns (term l.p l.x l.m l.w l.j l.r) l.i)))

abbrev pub decreases-loop-i : goal.decreases-loop-i
decreases-loop-i l = l.models - l.i
