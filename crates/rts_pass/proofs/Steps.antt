-- One slot as the code smooths it in arrays, by what inversion answers. Assumes nothing.
use mathlib.Core.Path.{◌≡◌, sym, ap, ◌∙◌}
use mathlib.Core.List.{List}
use Prim.Native.Nat.{ℕ, ◌+◌, ◌≤◌}
use native.Mathlib.Omega.{arith}
use lib.ListN.{length}
use lib.Ieee.{Float}
use Rattle.std.specs.Prelude.{Ok, Err, IsErrAnd}
use Rattle.answer.specs.declared.Refusal.{Refusal}
use Rattle.answer.specs.Answer.{Answer}
use Rattle.answer.proofs.Exits.{exit}
use Rattle.algebra.specs.Matrix.{Matrix, sub, vec_sub}
use Rattle.algebra.specs.Array.{pad_row, pad}
use Rattle.algebra.specs.Inverse.{inv}
use Rattle.algebra.proofs.Matrices.{shape-sub}
use Rattle.algebra.proofs.Vectors.{length-vec_sub}
use Rattle.algebra.proofs.Arrays.{used-pad, cut-pad_row}
use Rattle.algebra.proofs.Inverses.{inv-shape}
use Rattle.sizes.specs.declared.Size.{Size}
use Rattle.sizes.specs.Size.{count, front, part}
use Rattle.matrix.specs.Result.{as_matrix}
use Rattle.matrix.proofs.Results.{was_answered, was_refused}
use Rattle.filtering.specs.Filter.{propagated, gain, corrected_state}
use Rattle.steps.specs.Step.{Rows, estimate_rows, arrays_of}
use Rattle.filtering.proofs.Shapes.{shape-gain}
use Rattle.layout.specs.Layout.{vector_in, matrix_in, pair_length, stride}
use Rattle.smoothing.specs.Smoother.{Slot, smoothed_state, smoothed_covariance, smoothed_pair, smooth_slot}
use Rattle.smoothing.proofs.Slots.{covariance-propagated, slot-answered, slot-refused}
use Rattle.duty.specs.Buffer.{pair_at, slot_from}
use Rattle.duty.specs.Passed.{smooth_left}
use Rattle.rts_pass.proofs.Arrays.{state-read, covariance-read}

-- the slot from number k on of b: a pair takes len numbers, q and w are its predicted covariance and that inverted
module _ (n : Size) (b : List Float) (k : ℕ) (h : k + stride (count n) ≤ length b) (f : Rows) (x : List Float) (p : Rows) {size len : ℕ} (es : size ≡ count n)
    (long : len ≡ pair_length (count n)) {q : Rows} (eq : q ≡ pad (matrix_in (count n) (count n) b (k + len + size)))
    {w : Answer Rows} (ew : w ≡ as_matrix (inv (count n) (part n n q))) where
  abbrev s : Slot
  s = slot_from (count n) b k

  abbrev outcome : Answer Unit × (List Float × Rows)
  outcome = smooth_left arrays_of (x, p) (smooth_slot (count n) (part n n f) s (estimate_rows n x p))

  inside : k + len + pair_length (count n) ≤ length b
  inside = omega (arith, long, h)

  predicted : part n n q ≡ s.predicted.covariance
  unfolding slot_from
  predicted = covariance-read n b (k + len) inside es eq ∙ ap (λ (m : ℕ). (pair_at (count n) b (k + m)).covariance) long

  inverse : w ≡ as_matrix (inv (count n) s.predicted.covariance)
  inverse = ew ∙ ap (λ (A : Matrix). as_matrix (inv (count n) A)) predicted

  pub step-refused : (r : Answer Unit) {j : Refusal} → IsErrAnd r (λ e. e ≡ j) → w ≡ Err j → (r, (x, p)) ≡ outcome
  step-refused r e d =
      (λ i. (exit e i, (x, p)))
      ∙ sym (ap (smooth_left arrays_of (x, p)) (slot-refused (count n) (part n n f) s (estimate_rows n x p) (was_refused (inv (count n) s.predicted.covariance) inverse d)))

  -- c, u and v are its filtered covariance, filtered state and predicted state, g its gain, and dx and dp the differences
  pub step-done : {rows c g dp p' : Rows} {u v dx x' : List Float} → w ≡ Ok rows
      → c ≡ pad (matrix_in (count n) (count n) b (k + size))
      → g ≡ pad (gain (count n) (count n) (part n n c) (part n n f) (part n n rows))
      → u ≡ pad_row (vector_in (count n) b k)
      → v ≡ pad_row (vector_in (count n) b (k + len))
      → dx ≡ pad_row (vec_sub (count n) (front n x) (front n v))
      → dp ≡ pad (sub (count n) (count n) (part n n p) (part n n q))
      → x' ≡ pad_row (corrected_state (count n) (count n) (part n n g) (front n dx) (front n u))
      → p' ≡ pad (propagated (count n) (count n) (part n n g) (part n n dp) (part n n c))
      → (Ok tt, (x', p')) ≡ outcome
  unfolding slot_from smoothed_pair smoothed_state
  step-done {rows} {c} {g} {dp} {p'} {u} {v} {dx} {x'} d ec eg eu ev edx edp ex ep =
      let N = count n in
      let F = part n n f in
      let W = part n n rows in
      let isW : inv N s.predicted.covariance ≡ Ok W = was_answered (inv N s.predicted.covariance) (inv-shape N s.predicted.covariance) inverse d in
      let C : part n n c ≡ s.filtered.covariance = covariance-read n b k (omega (arith, h)) es ec in
      let U : front n u ≡ s.filtered.state = state-read n b k (omega (arith, h)) eu in
      let Y : front n v ≡ s.predicted.state = state-read n b (k + len) inside ev ∙ ap (λ (m : ℕ). (pair_at N b (k + m)).state) long in
      let K = gain N N s.filtered.covariance F W in
      let isK : part n n g ≡ K = ap (part n n) eg ∙ used-pad N N _ (shape-gain N N (part n n c) F W) ∙ ap (λ (A : Matrix). gain N N A F W) C in
      let isX : front n dx ≡ vec_sub N (front n x) s.predicted.state = ap (front n) edx ∙ cut-pad_row N _ (length-vec_sub N (front n x) (front n v)) ∙ ap (vec_sub N (front n x)) Y in
      let isP : part n n dp ≡ sub N N (part n n p) s.predicted.covariance = ap (part n n) edp ∙ used-pad N N _ (shape-sub N N (part n n p) (part n n q)) ∙ ap (sub N N (part n n p)) predicted in
      let state : x' ≡ pad_row (smoothed_state N s K (front n x)) = ex ∙ λ i. pad_row (corrected_state N N (isK i) (isX i) (U i)) in
      let covariance : p' ≡ pad (smoothed_covariance N s K (part n n p)) = ep ∙ (λ i. pad (propagated N N (isK i) (isP i) (C i))) ∙ ap pad (sym (covariance-propagated N s K (part n n p))) in
      (λ i. (Ok tt, (state i, covariance i))) ∙ sym (ap (smooth_left arrays_of (x, p)) (slot-answered N F s (estimate_rows n x p) isW))
