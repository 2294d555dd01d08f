-- The smoother of Rauch, Tung and Striebel, for any state size and any number of slots, in the order of rounding of rts_smoother.rs. Definitions only.
use Rattle.std.specs.Prelude.{ℕ, List}
use Rattle.answer.specs.Answer.{Answer, mapped}
use Rattle.algebra.specs.Matrix.{Vector, Matrix, mul, add, sub, transpose, vec_sub}
use Rattle.algebra.specs.Inverse.{inv}
use Rattle.filtering.specs.Filter.{Estimate, gain, corrected_state}
use Rattle.smoothing.specs.Backward.{pass}

-- a filtered pair, and the pair predicted for the next slot
pub record Slot : Type 0 where
  pub filtered : Estimate
  pub predicted : Estimate

-- a state size, a transition and the stored slots in order
pub record Duty : Type 0 where
  pub size : ℕ
  pub transition : Matrix
  pub slots : List Slot

-- filtered covariance × transposed F × inverted predicted covariance; refused with 3 where inversion rejects the predicted covariance
unfoldable pub slot_gain : ℕ → Matrix → Slot → Answer Matrix
slot_gain n F s = mapped (gain n n s.filtered.covariance F) (inv n s.predicted.covariance)

-- x + G d, with d the next slot's smoothed state less the predicted state
unfoldable pub smoothed_state : ℕ → Slot → Matrix → Vector → Vector
smoothed_state n s G next = corrected_state n n G (vec_sub n next s.predicted.state) s.filtered.state

-- P + (G D) Gᵀ, with D the next slot's smoothed covariance less the predicted covariance
unfoldable pub smoothed_covariance : ℕ → Slot → Matrix → Matrix → Matrix
smoothed_covariance n s G next = add n n s.filtered.covariance (mul n n n (mul n n n G (sub n n next s.predicted.covariance)) (transpose n n G))

-- slot s, with its gain G, before a slot whose smoothed pair is next
unfoldable pub smoothed_pair : ℕ → Slot → Matrix → Estimate → Estimate
smoothed_pair n s G next = record { state = smoothed_state n s G next.state; covariance = smoothed_covariance n s G next.covariance }

-- slot s before a slot whose smoothed pair is next; refused with 3 where it has no gain
unfoldable pub smooth_slot : ℕ → Matrix → Slot → Estimate → Answer Estimate
smooth_slot n F s next = mapped (λ G. smoothed_pair n s G next) (slot_gain n F s)

-- the slots l with state size n and transition F, from the last back
unfoldable pub smooth_slots : ℕ → Matrix → List Slot → Answer (List Estimate)
smooth_slots n F l = pass (λ s. s.filtered) (slot_gain n F) (smoothed_pair n) l

unfoldable pub smooth : Duty → Answer (List Estimate)
smooth d = smooth_slots d.size d.transition d.slots
