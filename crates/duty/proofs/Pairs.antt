-- Laws of pairs in a buffer: how long their numbers are, what a pair that is put leaves, and that it is read back. Assumes nothing.
use mathlib.Core.Path.{◌≡◌, ap₂, ◌∙◌}
use mathlib.Core.List.{List, ◌++◌}
use Prim.Native.Nat.{ℕ, ◌+◌, ◌*◌, ◌≤◌}
use lib.ListN.{length, length-append}
use lib.Ieee.{Float}
use Rattle.answer.proofs.Tables.{length-table}
use Rattle.algebra.specs.Matrix.{at}
use Rattle.algebra.specs.Array.{cut, used}
use Rattle.algebra.proofs.Matrices.{Shape, shape-mat}
use Rattle.filtering.specs.Filter.{Estimate, estimate}
use Rattle.layout.specs.Layout.{joined, placed, put_at, pair_length}
use Rattle.layout.proofs.Rows.{length-rows, state-placed, covariance-placed}
use Rattle.layout.proofs.Calls.{pair_put}
use Rattle.duty.specs.Buffer.{pair_at, pair_numbers}

-- ---- a pair of size n
pub record Paired (n : ℕ) (e : Estimate) : Type 0 where
  pub state : length e.state ≡ n
  pub covariance : Shape n n e.covariance

pub length-pair : {n : ℕ} {e : Estimate} → Paired n e → length (pair_numbers e) ≡ pair_length n
unfolding pair_numbers
length-pair {n} {e} p = length-append e.state _ ∙ ap₂ (λ (i j : ℕ). i + j) p.state (length-rows n n e.covariance p.covariance)

pub paired_at : (n : ℕ) (b : List Float) (k : ℕ) → Paired n (pair_at n b k)
unfolding pair_at
paired_at n b k = record { state = length-table n (λ i. at b (k + i)); covariance = shape-mat n n (λ i j. at b (k + n + i * n + j)) }

-- ---- what `put_pair` leaves where there is room: the size of the call, j, is n
pub pair-placed : {j n : ℕ} (k : ℕ) (b x : List Float) (p : List (List Float)) {b₁ : List Float} → j ≡ n → k + pair_length n ≤ length b
    → b₁ ≡ put_at k (cut j x ++ joined (used j j p)) b → b₁ ≡ placed k (pair_numbers (estimate (cut n x) (used n n p))) b
unfolding pair_numbers
pair-placed k b x p e h q = pair_put k b x p e h q

-- it is read back
pub pair-back : {n : ℕ} {e : Estimate} (k : ℕ) (b : List Float) → Paired n e → k + pair_length n ≤ length b → pair_at n (placed k (pair_numbers e) b) k ≡ e
unfolding pair_at pair_numbers
pair-back {n} {e} k b h l =
    ap₂ estimate (state-placed k e.state e.covariance b h.state h.covariance l) (covariance-placed k e.state e.covariance b h.state h.covariance l)
