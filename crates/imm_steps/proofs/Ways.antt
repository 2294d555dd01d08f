-- Laws of the models' numbers: the first numbers of a row, and a sum term by term. Assumes nothing.
use mathlib.Core.Path.{◌≡◌, refl, ap, ◌∙◌}
use mathlib.Core.List.{List}
use Prim.Native.Nat.{ℕ, zero, suc, ◌≤◌, ◌<◌}
use native.Mathlib.Omega.{arith}
use lib.ListN.{replicate}
use lib.Ieee.{Float}
use Rattle.scalar.specs.Number.{◌⊕◌, +0}
use Rattle.answer.specs.Table.{table}
use Rattle.answer.proofs.Tables.{table_ext}
use Rattle.algebra.specs.Matrix.{at, sum_from, sum_of}
use Rattle.algebra.specs.Array.{cut}

-- ---- the first c numbers of v
pub first_are : (c : ℕ) (v : List Float) (f : ℕ → Float) → ((j : ℕ) → j < c → at v j ≡ f j) → cut c v ≡ table c f
unfolding cut
first_are c v f e = table_ext c (λ j. at v j) f e

-- ---- a sum in each of four columns: g i c is term i of column c
abbrev pub columns : (ℕ → ℕ → Float) → ℕ → List Float
columns g n = table 4 (λ c. sum_of n (λ i. g i c))

pub columns-none : (g : ℕ → ℕ → Float) → replicate 4 +0 ≡ columns g 0
unfolding sum_from
columns-none g = refl

pub columns-more : (g : ℕ → ℕ → Float) (t : ℕ) {s u : List Float} → s ≡ columns g t → u ≡ table 4 (λ c. at s c ⊕ g t c) → u ≡ columns g (suc t)
unfolding sum_from
columns-more g t e p = p ∙ ap (λ (s : List Float). table 4 (λ c. at s c ⊕ g t c)) e

-- t terms are written out, and t is n
pub columns_at : (g : ℕ → ℕ → Float) {t n : ℕ} {s : List Float} → t ≡ n → s ≡ columns g t → s ≡ columns g n
columns_at g e p = p ∙ ap (columns g) e
