-- The loop from the last slot back, whatever holds the pair of the slot come back to: what holds at each slot, and that its end is the definition. Assumes nothing.
use mathlib.Core.Path.{◌≡◌, refl, sym, ap, ap₂, ◌∙◌, subst, subst⁻¹}
use mathlib.Core.List.{List, [], ◌∷◌, map}
use Prim.Native.Nat.{ℕ, suc, ◌+◌, ◌*◌, ◌≤◌, ◌<◌}
use native.Mathlib.Nat.{suc-mul}
use native.Mathlib.Omega.{arith}
use lib.ListN.{length, drop, drop_of_length-le}
use lib.Seq.{drop-cons}
use lib.Ieee.{Float}
use Rattle.std.specs.Prelude.{Ok, Err}
use Rattle.answer.specs.declared.Refusal.{Refusal}
use Rattle.answer.specs.Answer.{Answer, mapped}
use Rattle.answer.proofs.Answers.{differ, same-refusal, same_answer}
use Rattle.answer.proofs.Tables.{length-table, get_or-table}
use Rattle.algebra.specs.Matrix.{Matrix}
use Rattle.algebra.proofs.Matrices.{shape-add}
use Rattle.algebra.proofs.Vectors.{length-vec_add}
use Rattle.filtering.specs.Filter.{Estimate, corrected_state}
use Rattle.smoothing.specs.Backward.{Results, listed, back, pass}
use Rattle.smoothing.specs.Smoother.{Slot, slot_gain, smoothed_state, smoothed_covariance, smoothed_pair, smooth_slot, smooth_slots}
use Rattle.smoothing.proofs.Backward.{refused_from}
use Rattle.smoothing.proofs.Slots.{slot_gained, back-answered, back-refused}
use Rattle.layout.specs.Layout.{joined, placed, pair_length, stride}
use Rattle.layout.proofs.Places.{placed-none, placed-before}
use Rattle.layout.proofs.Rows.{ends-within}
use Rattle.duty.specs.Buffer.{pair_at, slot_from, slot_at, slots_of, pair_numbers}
use Rattle.duty.specs.Passed.{told_of, smooth_left, Passed}
use Rattle.duty.proofs.Pairs.{Paired, length-pair, paired_at}

abbrev start : Slot → Estimate
start s = s.filtered

pub paired-smoothed : (n : ℕ) (s : Slot) (G : Matrix) (e : Estimate) → Paired n (smoothed_pair n s G e)
unfolding smoothed_pair smoothed_state smoothed_covariance corrected_state
paired-smoothed n s G e = record { state = length-vec_add n _ _; covariance = shape-add n n _ _ }

paired-slot : (n : ℕ) (F : Matrix) (s : Slot) (next : Estimate) {e : Estimate} → smooth_slot n F s next ≡ Ok e → Paired n e
paired-slot n F s next q = let g = slot_gained n F s next q in subst (Paired n) g.pair (paired-smoothed n s g.gain next)

-- ---- what is told, t, of an answer a
pub told-done : {A : Type 0} (a : Answer A) {t : Answer Unit} {u : Unit} → t ≡ told_of a → t ≡ Ok u → (r : A) × (a ≡ Ok r)
told-done (Err k) e d = absurd (differ (sym e ∙ d))
told-done (Ok r) e d = (r, refl)

pub told-refused : {A : Type 0} (a : Answer A) {t : Answer Unit} {k : Refusal} → t ≡ told_of a → t ≡ Err k → a ≡ Err k
told-refused (Err j) e d = ap Err (same-refusal (sym e ∙ d))
told-refused (Ok r) e d = absurd (differ (sym d ∙ e))

-- beside what stands in a place that held x
module _ {A X : Type 0} (put : A → X) (x : X) where
  left-told : (a : Answer A) → (smooth_left put x a).0 ≡ told_of a
  left-told (Err k) = refl
  left-told (Ok r) = refl

  pub left-done : (a : Answer A) {y : X} {t : Answer Unit} {u : Unit} → (t, y) ≡ smooth_left put x a → t ≡ Ok u → (r : A) × (a ≡ Ok r) × (y ≡ put r)
  left-done a e d =
      let (r, p) = told-done a (ap (λ (w : Answer Unit × X). w.0) e ∙ left-told a) d in
      (r, p, ap (λ (w : Answer Unit × X). w.1) (e ∙ ap (smooth_left put x) p))

  pub left-refused : (a : Answer A) {y : X} {t : Answer Unit} {k : Refusal} → (t, y) ≡ smooth_left put x a → t ≡ Err k → a ≡ Err k
  left-refused a e d = told-refused a (ap (λ (w : Answer Unit × X). w.0) e ∙ left-told a) d

module _ (n : ℕ) (F : Matrix) (b : List Float) (c : ℕ) where
  -- slot k and those after it
  abbrev back_from : ℕ → Answer (Results Estimate)
  back_from k = back start (slot_gain n F) (smoothed_pair n) (slot_at n b k) (drop (suc k) (slots_of n b c))

  from_slot : (k : ℕ) → k < c → drop k (slots_of n b c) ≡ slot_at n b k ∷ drop (suc k) (slots_of n b c)
  from_slot k h =
      drop-cons (slots_of n b c) k (slot_at n b k) (subst (λ (m : ℕ). k < m) (sym (length-table c (λ j. slot_at n b j))) h)
      ∙ ap (λ (s : Slot). s ∷ drop (suc k) (slots_of n b c)) (get_or-table c (λ j. slot_at n b j) k (slot_at n b k) h)

  -- The loop has come back to slot k. It has the slot's smoothed pair, e, and the pairs after it in o, which held o₀
  pub record Going (o₀ : List Float) (k : ℕ) (e : Estimate) (o : List Float) : Type 0 where
    pub below : k < c
    pub fits : c * pair_length n ≤ length o₀
    pub after : List Estimate
    pub is : back_from k ≡ Ok (record { first = e; later = after })
    pub paired : Paired n e
    pub numbers : o ≡ placed (suc k * pair_length n) (joined (map pair_numbers after)) o₀
    pub long : length o ≡ length o₀

  -- the last slot
  pub going_start : {o₀ : List Float} {k : ℕ} {e : Estimate} → suc k ≡ c → c * pair_length n ≤ length o₀ → e ≡ pair_at n b (k * stride n) → Going o₀ k e o₀
  unfolding slot_from back
  going_start {o₀} {k} ek f ee =
      subst⁻¹ (λ (e : Estimate). Going o₀ k e o₀) ee
      (record {
        below = omega arith;
        fits = f;
        after = [];
        is = ap (back start (slot_gain n F) (smoothed_pair n) (slot_at n b k)) (drop_of_length-le (slots_of n b c) {i = suc k} (omega (arith, length-table c (λ j. slot_at n b j))));
        paired = paired_at n b (k * stride n);
        numbers = sym (placed-none (suc k * pair_length n) o₀);
        long = refl;
      })

  module _ {o₀ o : List Float} {k : ℕ} {e : Estimate} (t : Going o₀ k e o) where
    pub going_room : k * pair_length n + pair_length n ≤ length o
    going_room = omega (arith, t.fits, t.long, ends-within (pair_length n) t.below)

    -- slot k's pair is put in front of those after it
    put_front : {q : ℕ} {z : List Float} → q ≡ k * pair_length n → z ≡ placed q (pair_numbers e) o
        → z ≡ placed (k * pair_length n) (joined (map pair_numbers (e ∷ t.after))) o₀
    put_front {q} {z} eq ez =
        let rest = joined (map pair_numbers t.after) in
        let whole : length (pair_numbers e) ≡ pair_length n = length-pair t.paired in
        let next : suc k * pair_length n ≡ k * pair_length n + length (pair_numbers e) = suc-mul k (pair_length n) ∙ ap (λ (m : ℕ). k * pair_length n + m) (sym whole) in
        ez
        ∙ ap₂ (λ (m : ℕ) (l : List Float). placed m (pair_numbers e) l) eq (t.numbers ∙ ap (λ (m : ℕ). placed m rest o₀) next)
        ∙ placed-before (k * pair_length n) (pair_numbers e) rest o₀ (omega (arith, whole, going_room, t.long))

    -- ---- slot j, the one before, which the code has as s: its part of the pass is answered, or refused
    module _ {j : ℕ} {s : Slot} (ej : suc j ≡ k) (es : s ≡ slot_at n b j) where
      behind : drop (suc j) (slots_of n b c) ≡ slot_at n b k ∷ drop (suc k) (slots_of n b c)
      behind = ap (λ (m : ℕ). drop m (slots_of n b c)) ej ∙ from_slot k t.below

      pub going_more : {e₁ : Estimate} {q : ℕ} {z : List Float} → smooth_slot n F s e ≡ Ok e₁ → q ≡ k * pair_length n → z ≡ placed q (pair_numbers e) o → length z ≡ length o
          → Going o₀ j e₁ z
      going_more {e₁} d eq ez l =
          let d₁ = ap (λ (s : Slot). smooth_slot n F s e) (sym es) ∙ d in
          record {
            below = omega (arith, t.below);
            fits = t.fits;
            after = e ∷ t.after;
            is = ap (back start (slot_gain n F) (smoothed_pair n) (slot_at n b j)) behind ∙ back-answered n F (slot_at n b j) (slot_at n b k) (drop (suc k) (slots_of n b c)) t.is d₁;
            paired = paired-slot n F (slot_at n b j) e d₁;
            numbers = put_front eq ez ∙ ap (λ (m : ℕ). placed (m * pair_length n) (joined (map pair_numbers (e ∷ t.after))) o₀) (sym ej);
            long = l ∙ t.long;
          }

      pub going_stop : {m : Refusal} {z : List Float} {r : Answer Unit} → smooth_slot n F s e ≡ Err m → r ≡ Err m → Passed (smooth_slots n F (slots_of n b c)) o₀ z r
      unfolding smooth_slots pass
      going_stop {m} d er =
          let stop : back_from j ≡ Err m =
          ap (back start (slot_gain n F) (smoothed_pair n) (slot_at n b j)) behind
          ∙ back-refused n F (slot_at n b j) (slot_at n b k) (drop (suc k) (slots_of n b c)) t.is (ap (λ (s : Slot). smooth_slot n F s e) (sym es) ∙ d) in
          let a : smooth_slots n F (slots_of n b c) ≡ Err m =
          refused_from start (slot_gain n F) (smoothed_pair n) j (slots_of n b c) (omega (arith, t.below, length-table c (λ i. slot_at n b i)))
          (ap (pass start (slot_gain n F) (smoothed_pair n)) (from_slot j (omega (arith, t.below))) ∙ ap (mapped listed) stop) in
          record { told = er ∙ ap told_of (sym a); pairs = λ r h. absurd (differ (sym a ∙ h)) }

    -- slot k is the first, and its pair is put
    pub going_done : {z : List Float} → k ≡ 0 → z ≡ placed 0 (pair_numbers e) o → Passed (smooth_slots n F (slots_of n b c)) o₀ z (Ok tt)
    unfolding smooth_slots pass
    going_done {z} ek ez =
        let first : 0 ≡ k * pair_length n = omega arith ∙ ap (λ (m : ℕ). m * pair_length n) (sym ek) in
        let a : smooth_slots n F (slots_of n b c) ≡ Ok (e ∷ t.after) =
        ap (pass start (slot_gain n F) (smoothed_pair n)) (from_slot 0 (omega (arith, t.below))) ∙ ap (mapped listed) (ap back_from (sym ek) ∙ t.is) in
        record {
          told = ap told_of (sym a);
          pairs = λ r q. put_front first ez ∙ ap₂ (λ (m : ℕ) (l : List Estimate). placed m (joined (map pair_numbers l)) o₀) (sym first) (same_answer (sym a ∙ q));
        }
