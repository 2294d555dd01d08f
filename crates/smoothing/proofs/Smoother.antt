-- Laws of smoothing, for slots of any kind S that hold a `Slot`, with a transition that may go by the slot: `smooth` is the case where it does not. Assumes nothing.
use mathlib.Core.Path.{◌≡◌, refl, sym, ap, ap₂, ◌∙◌}
use mathlib.Core.Logic.{◌⊎◌, inl, inr}
use mathlib.Core.List.{List, [], ◌∷◌, ◌++◌, map}
use Prim.Native.Nat.{ℕ, ◌<◌}
use lib.ListN.{length, take, drop, take-append-drop}
use Rattle.std.specs.Prelude.{Ok, Err}
use Rattle.answer.specs.declared.Refusal.{Refusal}
use Rattle.answer.specs.declared.Refusal.TheVariants.{InsufficientData, SingularMatrix}
use Rattle.answer.specs.Answer.{Answer, mapped}
use Rattle.algebra.specs.Matrix.{Matrix, mul, add, sub, transpose}
use Rattle.answer.proofs.Answers.{same-refusal, same_answer, mapped-refused, refused-mapped}
use Rattle.algebra.specs.Inverse.{inv}
use Rattle.algebra.proofs.Inverses.{inv-refused}
use Rattle.filtering.specs.Filter.{Estimate, gain}
use Rattle.smoothing.specs.Backward.{back, pass, BeforeLast, this, later, Same}
use Rattle.smoothing.specs.Smoother.{Slot, slot_gain, smoothed_covariance, smoothed_pair}
use Rattle.smoothing.specs.Demand3.{Rejected, Covariances, covariances, outcome}
use Rattle.smoothing.proofs.Backward.{pass-tails, pass-count, pass-refused, refused-pass, same-pass, same-reaches, pass-parts, reaches, from_end}

-- ---- a slot has no gain, and the number is 3, just where inversion rejects its predicted covariance
module _ (n : ℕ) (F : Matrix) (s : Slot) where
  gain_refusal : (j : Refusal) → slot_gain n F s ≡ Err j → j ≡ SingularMatrix
  unfolding slot_gain
  gain_refusal j e = inv-refused n s.predicted.covariance j (mapped-refused _ (inv n s.predicted.covariance) j e)

  rejects : (j : Refusal) → slot_gain n F s ≡ Err j → Rejected n s
  unfolding slot_gain
  rejects j e = mapped-refused _ (inv n s.predicted.covariance) SingularMatrix (e ∙ ap Err (gain_refusal j e))

  no_gain : Rejected n s → slot_gain n F s ≡ Err SingularMatrix
  unfolding slot_gain
  no_gain h = refused-mapped _ (inv n s.predicted.covariance) SingularMatrix h

module _ {S : Type 0} (slot_of : S → Slot) (n : ℕ) (F : S → Matrix) where
  abbrev start : S → Estimate
  start s = (slot_of s).filtered

  abbrev gain_of : S → Answer Matrix
  gain_of s = slot_gain n (F s) (slot_of s)

  abbrev step : S → Matrix → Estimate → Estimate
  step s = smoothed_pair n (slot_of s)

  abbrev pub smoothed_by : List S → Answer (List Estimate)
  smoothed_by l = pass start gain_of step l

  abbrev pub Rejects : S → Type 0
  Rejects s = Rejected n (slot_of s)

  -- ---- refusals
  rejected : (k : Refusal) (l : List S) → BeforeLast (λ s. gain_of s ≡ Err k) l → BeforeLast Rejects l × (k ≡ SingularMatrix)
  rejected k l (this {s = s} h) = (this (rejects n (F s) (slot_of s) k h), gain_refusal n (F s) (slot_of s) k h)
  rejected k l (later {t = t} {l = m} b) = let r = rejected k (t ∷ m) b in (later r.0, r.1)

  no_gains : (l : List S) → BeforeLast Rejects l → BeforeLast (λ s. gain_of s ≡ Err SingularMatrix) l
  no_gains l (this {s = s} h) = this (no_gain n (F s) (slot_of s) h)
  no_gains l (later {t = t} {l = m} b) = later (no_gains (t ∷ m) b)

  pub refusals_to : (l : List S) (k : Refusal) → smoothed_by l ≡ Err k → ((l ≡ []) × (k ≡ InsufficientData)) ⊎ (BeforeLast Rejects l × (k ≡ SingularMatrix))
  unfolding pass
  refusals_to [] k e = inl (refl, sym (same-refusal e))
  refusals_to (s ∷ l) k e = inr (rejected k (s ∷ l) (pass-refused start gain_of step s l k e))

  pub refusals_from : (l : List S) (k : Refusal) → ((l ≡ []) × (k ≡ InsufficientData)) ⊎ (BeforeLast Rejects l × (k ≡ SingularMatrix)) → smoothed_by l ≡ Err k
  unfolding pass
  refusals_from l k (inl p) = ap smoothed_by p.0 ∙ ap Err (sym p.1)
  refusals_from l k (inr p) = refused-pass start gain_of step SingularMatrix (λ s. gain_refusal n (F s) (slot_of s)) l (no_gains l p.0) ∙ ap Err (sym p.1)

  -- ---- answers
  pub count : (l : List S) (r : List Estimate) → smoothed_by l ≡ Ok r → length r ≡ length l
  count l r e = pass-count start gain_of step l r e

  pub tails : (l : List S) (r : List Estimate) → smoothed_by l ≡ Ok r → (k : ℕ) → k < length l → smoothed_by (drop k l) ≡ Ok (drop k r)
  tails l r e k h = pass-tails start gain_of step k l r h e

  one-slot : (s : S) → smoothed_by (s ∷ []) ≡ Ok (start s ∷ [])
  unfolding pass back
  one-slot s = refl

  pub lasts : (l : List S) (r : List Estimate) → smoothed_by l ≡ Ok r → (before : List S) (s : S) → l ≡ before ++ (s ∷ [])
      → (q : List Estimate) × (r ≡ q ++ (start s ∷ []))
  lasts l r e before s p =
      let k = length before in
      let c : drop k l ≡ s ∷ [] = ap (drop k) p ∙ from_end before s in
      let d : drop k r ≡ start s ∷ [] = same_answer (sym (tails l r e k (reaches k l c)) ∙ ap smoothed_by c ∙ one-slot s) in
      (take k r, sym (take-append-drop k r) ∙ ap (λ (x : List Estimate). take k r ++ x) d)

  pub agreeing : (l m : List S) (r q : List Estimate) → smoothed_by l ≡ Ok r → smoothed_by m ≡ Ok q
      → (i j : ℕ) → Same start (drop i l) (drop j m) → drop i r ≡ drop j q
  agreeing l m r q h g i j c =
      let b = same-reaches start i j l m c in
      same_answer (sym (tails l r h i b.0) ∙ same-pass start gain_of step (drop i l) (drop j m) c ∙ tails m q g j b.1)

  -- ---- the covariances are smoothed by themselves: κ keeps of a slot its covariances and what decides its transition
  module _ {K : Type 0} (κ : S → K) (kept : K → Covariances) (E : K → Matrix) (keeps : (s : S) → covariances (slot_of s) ≡ kept (κ s)) (leads : (s : S) → F s ≡ E (κ s)) where
    gain_by : Covariances → Matrix → Answer Matrix
    gain_by c G = mapped (gain n n c.filtered G) (inv n c.predicted)

    move_by : Covariances → Matrix → Matrix → Matrix
    move_by c G next = add n n c.filtered (mul n n n (mul n n n G (sub n n next c.predicted)) (transpose n n G))

    abbrev alone : List K → Answer (List Matrix)
    alone l = pass (λ k. (kept k).filtered) (λ k. gain_by (kept k) (E k)) (λ k. move_by (kept k)) l

    by_itself : (l : List S) → outcome (smoothed_by l) ≡ alone (map κ l)
    unfolding slot_gain smoothed_covariance smoothed_pair gain_by move_by
    by_itself l =
        pass-parts start gain_of step κ (λ e. e.covariance) (λ k. (kept k).filtered) (λ k. gain_by (kept k) (E k)) (λ k. move_by (kept k))
        (λ s. ap (λ (c : Covariances). c.filtered) (keeps s))
        (λ s. ap₂ gain_by (keeps s) (leads s))
        (λ s g p. ap (λ (c : Covariances). move_by c g p.covariance) (keeps s)) l

    pub stateless : (l m : List S) → map κ l ≡ map κ m → outcome (smoothed_by l) ≡ outcome (smoothed_by m)
    stateless l m c = by_itself l ∙ ap alone c ∙ sym (by_itself m)
