-- Demand 3, proved: one theorem about whole duties of any length, for the definition and for whatever answers as it does. Assumes nothing.
use mathlib.Core.Path.{◌≡◌, refl, sym, ap, ap₂, ◌∙◌}
use mathlib.Core.List.{List}
use Prim.Native.Nat.{ℕ}
use Rattle.answer.specs.Answer.{Answer}
use Rattle.algebra.specs.Matrix.{Matrix}
use Rattle.filtering.specs.Filter.{Estimate}
use Rattle.smoothing.specs.Smoother.{Slot, Duty, smooth_slots, smooth}
use Rattle.smoothing.specs.Demand3.{covariances, outcome, Demand3}
use Rattle.smoothing.proofs.Smoother as Laws

self : Slot → Slot
self s = s

-- what is run on a duty answers as `smooth` does
module _ {D : Type 0} (duty : D → Duty) (run : D → Answer (List Estimate)) (same : (d : D) → run d ≡ smooth (duty d)) where
  pub demand3_by : Demand3 duty run
  unfolding smooth smooth_slots self
  demand3_by = record {
    refusals = λ d k. (
      λ e. Laws.refusals_to self (duty d).size (λ s. (duty d).transition) (duty d).slots k (sym (same d) ∙ e),
      λ p. same d ∙ Laws.refusals_from self (duty d).size (λ s. (duty d).transition) (duty d).slots k p,
    );
    count = λ d r h. Laws.count self (duty d).size (λ s. (duty d).transition) (duty d).slots r (sym (same d) ∙ h);
    tails = λ d e r h k l q. same e ∙ ap smooth q ∙ Laws.tails self (duty d).size (λ s. (duty d).transition) (duty d).slots r (sym (same d) ∙ h) k l;
    lasts = λ d r h before s p. Laws.lasts self (duty d).size (λ s. (duty d).transition) (duty d).slots r (sym (same d) ∙ h) before s p;
    agreeing = λ d e a r q h g i j c.
        Laws.agreeing self (duty d).size (λ s. (duty d).transition) (duty d).slots (duty e).slots r q (sym (same d) ∙ h)
        (ap₂ (λ (n : ℕ) (F : Matrix). smooth_slots n F (duty e).slots) a.size a.transition ∙ sym (same e) ∙ g) i j c;
    stateless = λ d e a c.
        ap outcome (same d)
        ∙ ap₂ (λ (n : ℕ) (F : Matrix). outcome (smooth_slots n F (duty d).slots)) a.size a.transition
        ∙ Laws.stateless self (duty e).size (λ s. (duty e).transition) covariances (λ c. c) (λ c. (duty e).transition) (λ s. refl) (λ s. refl) (duty d).slots (duty e).slots c
        ∙ ap outcome (sym (same e));
  }

pub demand3 : Demand3 (λ (d : Duty). d) smooth
demand3 = demand3_by (λ d. d) smooth (λ d. refl)
