-- In exact arithmetic the textbook's form of the downdate takes v × transposed v from L × transposed L. Assumes nothing.
use mathlib.Core.Path.{◌≡◌, refl, sym, ap, ap₂, ◌∙◌}
use mathlib.Core.Bool.{Bool, true, false}
use Prim.Native.Nat.{ℕ, zero, suc, ◌≤◌, ◌<◌}
use native.Mathlib.Nat.{le_refl}
use native.Mathlib.Omega.{arith}
use borrow.Author.Tests.{lt-ltb, le-ltb}
use Rattle.std.specs.Prelude.{Ok}
use Rattle.answer.specs.declared.Refusal.TheVariants.{NotPositiveDefinite}
use Rattle.answer.specs.Answer.{refused_if}
use Rattle.answer.specs.Outcome.{unchanged, done, final, ◌else_leave◌then◌}
use Rattle.answer.proofs.Choice.{cond-true, cond-false}
use Rattle.answer.proofs.Answers.{number, result, result_of}
use Rattle.textbook.specs.Arithmetic.{Arithmetic, Exact}
use Rattle.textbook.specs.Matrices as M
use Rattle.textbook.specs.Downdate as D
use Rattle.textbook.proofs.Field as F
use Rattle.textbook.proofs.Cells as Cells
use Rattle.textbook.proofs.Ends.{Ends, ends-onward}
use Rattle.textbook.proofs.Column as Column

module _ (N : Arithmetic) (X : Exact N) (n : ℕ) (L₀ : M.Mat N) (v₀ : M.Vec N) where
  abbrev G : M.Mat N → ℕ → ℕ → N.Num
  G = Column.G N X n

  abbrev Turned : ℕ → M.Mat N → M.Vec N → Type 0
  Turned = Column.Turned N X n L₀ v₀

  one-column : (k : ℕ) → k < n → (L : M.Mat N) (v : M.Vec N) → Turned k L v → Ends L (Turned (suc k)) (D.rotate N (D.textbook N) n k L v)
  unfolding D.rotate D.turned_diagonal
  one-column k hk L v u = by (N.at_most (D.square N k L v) N.nought) refl
    where
      by : (b : Bool) → N.at_most (D.square N k L v) N.nought ≡ b → Ends L (Turned (suc k))
          (refused_if b NotPositiveDefinite (N.root (D.square N k L v)) else_leave unchanged then λ d.
          done (D.turned_vector N (D.textbook N) n k d L v) (D.turned_factor N n k d L v))
      by true e = number tt
      by false e = result (Column.more N X n L₀ v₀ k hk L v u e)

  module _ (low : M.Lower N n L₀) (nonzero : M.NonzeroDiagonal N n L₀) where
    all-columns : (k : ℕ) → k ≤ n → Ends L₀ (Turned k) (D.rotated N (D.textbook N) n k L₀ v₀)
    unfolding D.rotated
    all-columns zero h = result (record {
      lower = low;
      diagonal = λ t q g. nonzero t g;
      kept = λ i j hi hj. ap (N.plus (G L₀ i j)) (sym (ap₂ N.times (start i) (start j)));
    })
      where
        start : (i : ℕ) → Column.from N X n 0 v₀ i ≡ M.at N v₀ i
        start i = cond-false N.nought (M.at N v₀ i) (le-ltb i 0 (omega arith))
    all-columns (suc k) h =
        ends-onward (Turned k) (Turned (suc k)) L₀ (D.rotated N (D.textbook N) n k L₀ v₀) (D.rotate N (D.textbook N) n k)
        (all-columns k (omega arith))
        (λ L v u. one-column k h L v u)

    turned-all : (L : M.Mat N) (v : M.Vec N) → Turned n L v → M.Downdated N n L₀ v₀ L
    turned-all L v u = record {
      lower = u.lower;
      product = λ i j hi hj.
          Cells.gram_is N X n L i j hi hj
          ∙ F.minus-only N X (G L i j) (G L₀ i j) (N.times (M.at N v₀ i) (M.at N v₀ j))
          (u.kept i j hi hj
          ∙ ap (N.plus (G L₀ i j)) (ap₂ N.times (end i hi) (end j hj) ∙ F.times-nought N X N.nought)
          ∙ X.plus-nought (G L₀ i j))
          ∙ ap (λ (x : N.Num). N.minus x (N.times (M.at N v₀ i) (M.at N v₀ j))) (sym (Cells.gram_is N X n L₀ i j hi hj));
    }
      where
        end : (i : ℕ) → i < n → Column.from N X n n v i ≡ N.nought
        end i hi = cond-true N.nought _ (lt-ltb i n hi)

    pub downdated : (v' : M.Vec N) → (D.rotated N (D.textbook N) n n L₀ v₀).told ≡ Ok v'
        → M.Downdated N n L₀ v₀ (final L₀ (D.rotated N (D.textbook N) n n L₀ v₀).left)
    downdated v' e = turned-all (final L₀ (D.rotated N (D.textbook N) n n L₀ v₀).left) v' (result_of (all-columns n (le_refl n)) e)
