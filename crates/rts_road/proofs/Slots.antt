-- One slot of two states as the code smooths it, by what inversion answers. Assumes nothing.
use mathlib.Core.Path.{◌≡◌, sym, ap, ◌∙◌}
use Rattle.std.specs.Prelude.{Ok, Err, IsErrAnd}
use Rattle.answer.specs.declared.Refusal.{Refusal}
use Rattle.answer.specs.Answer.{Answer, mapped}
use Rattle.algebra.specs.Matrix.{Matrix}
use Rattle.algebra.specs.Inverse.{inv}
use Rattle.answer.proofs.Exits.{exit}
use Rattle.filtering.specs.Filter.{Estimate, gain}
use Rattle.road.specs.declared.Two.{Two}
use Rattle.road.specs.declared.Pair.{Pair}
use Rattle.road.specs.Road.{matrix_of, estimate_of}
use Rattle.smoothing.specs.Smoother.{smoothed_pair, smooth_slot}
use Rattle.smoothing.proofs.Slots.{slot-answered, slot-refused}
use Rattle.rts_road.specs.Slot.{slot_of_two}

-- the slot of the filtered pair e and the predicted pair y, of two states
module _ (e y next : Pair) (f : Two) where
  abbrev outcome-two : Answer Estimate
  outcome-two = smooth_slot 2 (matrix_of f) (slot_of_two e y) (estimate_of next)

  -- o is what inversion answers
  module _ {o : Answer Two} (eo : mapped matrix_of o ≡ inv 2 (matrix_of y.p)) where
    pub two-refused : (r : Answer Pair) {k : Refusal} → IsErrAnd r (λ j. j ≡ k) → o ≡ Err k → mapped estimate_of r ≡ outcome-two
    two-refused r q d =
        ap (mapped estimate_of) (exit q) ∙ sym (slot-refused 2 (matrix_of f) (slot_of_two e y) (estimate_of next) (sym eo ∙ ap (mapped matrix_of) d))

    pub two-done : {w : Two} {G : Matrix} {v : Estimate} → o ≡ Ok w → G ≡ gain 2 2 (matrix_of e.p) (matrix_of f) (matrix_of w)
        → v ≡ smoothed_pair 2 (slot_of_two e y) G (estimate_of next) → Ok v ≡ outcome-two
    two-done d eg ev =
        ap Ok (ev ∙ ap (λ (G : Matrix). smoothed_pair 2 (slot_of_two e y) G (estimate_of next)) eg)
        ∙ sym (slot-answered 2 (matrix_of f) (slot_of_two e y) (estimate_of next) (sym eo ∙ ap (mapped matrix_of) d))
