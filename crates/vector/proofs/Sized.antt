-- The used part of an outer product of four rows and columns. Assumes nothing.
use mathlib.Core.Path.{◌≡◌, sym, ◌∙◌}
use mathlib.Core.List.{List}
use Prim.Native.Nat.{ℕ, ◌≤◌}
use native.Mathlib.Nat.{le_trans}
use lib.Ieee.{Float}
use Rattle.scalar.specs.Number.{◌⊗◌}
use Rattle.answer.specs.Table.{table}
use Rattle.matrix.proofs.Results.{size_given, pair_given}
use Rattle.sizes.proofs.Sizes.{bounds_of, paired-size}
use Rattle.rows.proofs.Kernels.{dot-sized}
use Rattle.algebra.proofs.Vectors.{dot-cut}
use Rattle.algebra.specs.Matrix.{at, cell, mat, vec_scale, outer}
use Rattle.algebra.specs.Array.{cut, used}
use Rattle.algebra.proofs.Matrices.{cell-mat, mat_ext}
use Rattle.algebra.proofs.Vectors.{outer-cut}

pub used-outer : (r c : ℕ) (v w : List Float) → r ≤ 4 → c ≤ 4 → used r c (table 4 (λ i. vec_scale 4 w (at v i))) ≡ outer r c (cut r v) (cut c w)
unfolding used cut vec_scale
used-outer r c v w hr hc =
    let f : ℕ → ℕ → Float = λ i j. at w j ⊗ at v i in
    mat_ext r c (λ i j. cell (mat 4 4 f) i j) f (λ i j hi hj. cell-mat 4 4 f i j (le_trans hi hr) (le_trans hj hc))
    ∙ sym (outer-cut r c v w)

-- the sum of products of n numbers, where n is a size
pub ruleset dots = (size_given, pair_given, bounds_of, paired-size, dot-sized, dot-cut)
