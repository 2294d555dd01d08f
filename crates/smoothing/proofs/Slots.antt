-- One slot's part of the pass: by what inversion answers, its covariance as a filter propagates one, and a step back over it. Assumes nothing.
use mathlib.Core.Path.{◌≡◌, refl, sym, ap, ◌∙◌}
use mathlib.Core.List.{List, ◌∷◌}
use Prim.Native.Nat.{ℕ}
use Rattle.std.specs.Prelude.{Ok, Err}
use Rattle.scalar.proofs.Sum.{plus_comm}
use Rattle.answer.specs.declared.Refusal.{Refusal}
use Rattle.answer.specs.Answer.{Answer, mapped}
use Rattle.answer.proofs.Answers.{differ, same_answer, mapped-refused}
use Rattle.algebra.specs.Matrix.{Matrix, add, sub}
use Rattle.algebra.specs.Inverse.{inv}
use Rattle.algebra.proofs.Matrices.{mat_ext}
use Rattle.filtering.specs.Filter.{Estimate, propagated, gain}
use Rattle.smoothing.specs.Backward.{Results, in_front, back}
use Rattle.smoothing.specs.Smoother.{Slot, slot_gain, smoothed_covariance, smoothed_pair, smooth_slot}
use Rattle.smoothing.proofs.Backward.{back_step, back_stop}

-- P + (G D) Gᵀ is (G D) Gᵀ + P
pub covariance-propagated : (n : ℕ) (s : Slot) (G next : Matrix)
    → smoothed_covariance n s G next ≡ propagated n n G (sub n n next s.predicted.covariance) s.filtered.covariance
unfolding smoothed_covariance propagated add
covariance-propagated n s G next = mat_ext n n _ _ (λ i j h g. plus_comm _ _)

module _ (n : ℕ) (F : Matrix) (s : Slot) (next : Estimate) where
  -- ---- by what inversion answers
  abbrev by : Answer Matrix → Answer Estimate
  by a = mapped (λ G. smoothed_pair n s G next) (mapped (gain n n s.filtered.covariance F) a)

  pub slot-answered : {W : Matrix} → inv n s.predicted.covariance ≡ Ok W
      → smooth_slot n F s next ≡ Ok (smoothed_pair n s (gain n n s.filtered.covariance F W) next)
  unfolding smooth_slot slot_gain
  slot-answered q = ap by q

  pub slot-refused : {k : Refusal} → inv n s.predicted.covariance ≡ Err k → smooth_slot n F s next ≡ Err k
  unfolding smooth_slot slot_gain
  slot-refused q = ap by q

  -- where it is answered, with e, the slot has a gain
  pub record Gained (e : Estimate) : Type 0 where
    pub gain : Matrix
    pub is : slot_gain n F s ≡ Ok gain
    pub pair : smoothed_pair n s gain next ≡ e

  pub slot_gained : {e : Estimate} → smooth_slot n F s next ≡ Ok e → Gained e
  unfolding smooth_slot
  slot_gained {e} q = go (slot_gain n F s) refl
    where
      go : (a : Answer Matrix) → slot_gain n F s ≡ a → Gained e
      go (Err k) p = absurd (differ (ap (mapped (λ G. smoothed_pair n s G next)) (sym p) ∙ q))
      go (Ok G) p = record { gain = G; is = p; pair = same_answer (ap (mapped (λ G. smoothed_pair n s G next)) (sym p) ∙ q) }

-- ---- a step back, over slot s before slot t and the slots l, whose results are r
module _ (n : ℕ) (F : Matrix) (s t : Slot) (l : List Slot) {r : Results Estimate} (p : back (λ s. s.filtered) (slot_gain n F) (smoothed_pair n) t l ≡ Ok r) where
  pub back-answered : {e : Estimate} → smooth_slot n F s r.first ≡ Ok e
      → back (λ s. s.filtered) (slot_gain n F) (smoothed_pair n) s (t ∷ l) ≡ Ok (in_front e r)
  back-answered q =
      let g = slot_gained n F s r.first q in
      back_step (λ s. s.filtered) (slot_gain n F) (smoothed_pair n) s t l p g.is ∙ ap (λ (e : Estimate). Ok (in_front e r)) g.pair

  pub back-refused : {k : Refusal} → smooth_slot n F s r.first ≡ Err k → back (λ s. s.filtered) (slot_gain n F) (smoothed_pair n) s (t ∷ l) ≡ Err k
  unfolding smooth_slot
  back-refused {k} q = back_stop (λ s. s.filtered) (slot_gain n F) (smoothed_pair n) s t l p (mapped-refused _ (slot_gain n F s) k q)
