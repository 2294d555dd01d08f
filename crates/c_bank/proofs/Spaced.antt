-- Laws of rows that are read step by step, one for each model, and of four numbers that are written. Assumes nothing.
use mathlib.Core.Path.{◌≡◌, refl, ap, ◌∙◌}
use mathlib.Core.List.{List, [], ◌∷◌}
use Prim.Native.Nat.{ℕ, ◌+◌, ◌*◌, ◌≤◌, ◌<◌}
use native.Mathlib.Nat.{mul-le-mul_right, suc-mul}
use native.Mathlib.Omega.{arith}
use lib.ListN.{length, set, replicate}
use lib.Ieee.{Float, nan}
use Rattle.scalar.specs.Number.{+0}
use Rattle.answer.specs.Table.{table, pad_to}
use Rattle.answer.proofs.Tables.{get_or-table, get_or-pad_to, length-table}
use Rattle.algebra.specs.Matrix.{at, cell}
use Rattle.algebra.specs.Array.{cut}
use Rattle.layout.specs.Layout.{vector_at, placed}
use Rattle.layout.proofs.Places.{length-placed, set-placed, placed-before}

-- those of model i lie within l numbers, if those of all c do: w numbers each
pub reaches : (k step c w l i : ℕ) → i < c → k + c * step + w ≤ l + step → k + i * step + w ≤ l
reaches k step c w l i h r = omega (arith, mul-le-mul_right step h, suc-mul i step)

-- number c of row i, where four numbers were read for each model
pub spaced-cell : (b : List Float) (q step K : ℕ) {x : List (List Float)} → x ≡ pad_to 4 (replicate 4 +0) (table K (λ i. vector_at 4 b (q + i * step)))
    → (i c : ℕ) → i < K → c < 4 → cell x i c ≡ at b (q + i * step + c)
spaced-cell b q step K e i c h g =
    ap (λ (y : List (List Float)). cell y i c) e
    ∙ ap (λ (r : List Float). at r c) (get_or-pad_to 4 (replicate 4 +0) (table K f) i [] (rw (length-table K f) h) ∙ get_or-table K f i [] h)
    ∙ get_or-table 4 (λ j. at b (q + i * step + j)) c nan g
  where
    f : ℕ → List Float
    f i = vector_at 4 b (q + i * step)

-- four numbers set from the last to the first
pub write_back : (b v : List Float) (k : ℕ) → k + 3 < length b → set (set (set (set b (k + 3) (at v 3)) (k + 2) (at v 2)) (k + 1) (at v 1)) k (at v 0) ≡ placed k (cut 4 v) b
unfolding cut
write_back b v k h =
    let b₁ = placed (k + 3) (at v 3 ∷ []) b in
    let b₂ = placed (k + 2) (at v 2 ∷ at v 3 ∷ []) b in
    let b₃ = placed (k + 1) (at v 1 ∷ at v 2 ∷ at v 3 ∷ []) b in
    let l₁ : length b₁ ≡ length b = length-placed (k + 3) _ b (omega arith) in
    let l₂ : length b₂ ≡ length b = length-placed (k + 2) _ b (omega arith) in
    let l₃ : length b₃ ≡ length b = length-placed (k + 1) _ b (omega arith) in
    let s₁ : set b (k + 3) (at v 3) ≡ b₁ = set-placed (k + 3) (at v 3) b h in
    let s₂ : set b₁ (k + 2) (at v 2) ≡ b₂ = before (k + 2) (k + 3) (at v 2) (at v 3 ∷ []) b (omega arith) (omega arith) in
    let s₃ : set b₂ (k + 1) (at v 1) ≡ b₃ = before (k + 1) (k + 2) (at v 1) (at v 2 ∷ at v 3 ∷ []) b (omega arith) (omega arith) in
    ap (λ (l : List Float). set (set (set l (k + 2) (at v 2)) (k + 1) (at v 1)) k (at v 0)) s₁
    ∙ ap (λ (l : List Float). set (set l (k + 1) (at v 1)) k (at v 0)) s₂
    ∙ ap (λ (l : List Float). set l k (at v 0)) s₃
    ∙ before k (k + 1) (at v 0) (at v 1 ∷ at v 2 ∷ at v 3 ∷ []) b refl (omega arith)
  where
    before : (k j : ℕ) (x : Float) (l b : List Float) → j ≡ k + 1 → j + length l ≤ length b → set (placed j l b) k x ≡ placed k (x ∷ l) b
    before k j x l b e h =
        set-placed k x (placed j l b) (omega (arith, length-placed j l b h))
        ∙ ap (λ (z : ℕ). placed k (x ∷ []) (placed z l b)) e
        ∙ placed-before k (x ∷ []) l b (omega arith)
