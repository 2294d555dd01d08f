-- One model of weight 1 keeps its state, but for −0. Assumes nothing.
use mathlib.Core.Path.{◌≡◌, refl, ap, ◌∙◌}
use mathlib.Core.List.{[], ◌∷◌}
use Prim.Native.Nat.{ℕ}
use Rattle.scalar.specs.Number.{◌⊕◌, ◌⊗◌, +0, one}
use Rattle.answer.proofs.Tables.{table_ext}
use Rattle.algebra.specs.Matrix.{at, sum_from}
use Rattle.mixing.specs.Mixing.{Bank, model, weighted}
use Rattle.mixing.specs.Laws.{Laws, Numbers, alone, kept}
use Rattle.mixing.proofs.Computing.{computing}
use Rattle.mixing.proofs.Kept.{term-kept}

weighted-kept : (n : ℕ) (B : Bank) → Numbers n (model B 0).state → weighted n 1 B (one ∷ []) ≡ kept n (model B 0).state
unfolding weighted sum_from
weighted-kept n B h = table_ext n (λ r. +0 ⊕ at (model B 0).state r ⊗ one) (λ r. alone (at (model B 0).state r)) (λ r l. term-kept (at (model B 0).state r) (h r l))

pub laws : Laws
unfolding computing
laws = record {
  mixed = λ n M B e h. ap (weighted n 1 B) e ∙ weighted-kept n B h;
  fused = λ n B e h. ap (weighted n 1 B) e ∙ weighted-kept n B h;
  certain = refl;
}
