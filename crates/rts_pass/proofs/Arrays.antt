-- A pair of a buffer in arrays: what is read from it, and that arrays made of a pair hold it. Assumes nothing.
use mathlib.Core.Path.{◌≡◌, refl, ap, ap₂, ◌∙◌}
use mathlib.Core.List.{List}
use Prim.Native.Nat.{ℕ, ◌+◌, ◌≤◌}
use native.Mathlib.Omega.{arith}
use lib.ListN.{length}
use lib.Ieee.{Float}
use Rattle.algebra.specs.Array.{pad_row, pad}
use Rattle.algebra.proofs.Arrays.{used-pad, cut-pad_row}
use Rattle.sizes.specs.declared.Size.{Size}
use Rattle.sizes.specs.Size.{count, front, part}
use Rattle.filtering.specs.Filter.{Estimate, estimate}
use Rattle.steps.specs.Step.{Rows, estimate_rows, arrays_of}
use Rattle.layout.specs.Layout.{matrix_at, vector_in, matrix_in, pair_length}
use Rattle.layout.proofs.Calls.{vector-used, matrix-used}
use Rattle.duty.specs.Buffer.{pair_at}
use Rattle.duty.proofs.Pairs.{Paired}

-- what is read from number k on of b, where there is room: size is n as the code has it
module _ (n : Size) (b : List Float) (k : ℕ) (h : k + pair_length (count n) ≤ length b) where
  pub state-read : {x : List Float} → x ≡ pad_row (vector_in (count n) b k) → front n x ≡ (pair_at (count n) b k).state
  unfolding pair_at
  state-read e = vector-used k b {n = count n} refl (omega arith) e

  pub covariance-read : {size : ℕ} {p : Rows} → size ≡ count n → p ≡ pad (matrix_in (count n) (count n) b (k + size)) → part n n p ≡ (pair_at (count n) b k).covariance
  unfolding pair_at
  covariance-read {size} es e = matrix-used (k + size) b {r = count n} {c = count n} refl refl (omega arith) e ∙ ap (λ (m : ℕ). matrix_at (count n) (count n) b (k + m)) es

-- arrays that were made of a pair hold it
pub held : (n : Size) {e : Estimate} {x : List Float} {p : Rows} → Paired (count n) e → (x, p) ≡ arrays_of e → estimate_rows n x p ≡ e
held n {e} h q =
    ap₂ estimate
    (ap (λ (a : List Float × Rows). front n a.0) q ∙ cut-pad_row (count n) e.state h.state)
    (ap (λ (a : List Float × Rows). part n n a.1) q ∙ used-pad (count n) (count n) e.covariance h.covariance)
