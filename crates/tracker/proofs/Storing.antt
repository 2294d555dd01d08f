-- The filter's loop: the slots stored so far, and what the readings left lead to. Assumes nothing.
use Prim.Native.Nat.{ℕ, zero, suc, ◌+◌, ◌*◌, ◌≤◌, ◌<◌}
use native.Mathlib.Numerals.{add-one}
use native.Mathlib.Omega.{arith}
use mathlib.Core.Path.{◌≡◌, refl, sym, ap, ap₂, ◌∙◌}
use mathlib.Core.List.{List, [], ◌∷◌, ◌++◌, map, append_assoc, append-nil}
use lib.ListN.{length, drop, get_or}
use lib.Ieee.{Float}
use Rattle.std.specs.Prelude.{Option, Ok, Err}
use Rattle.answer.specs.declared.Refusal.{Refusal}
use Rattle.answer.specs.Answer.{Answer}
use Rattle.algebra.specs.Matrix.{Vector, Matrix}
use Rattle.filtering.specs.Filter.{Motion, Sensor, Estimate}
use Rattle.road.specs.declared.Pair.{Pair}
use Rattle.road.specs.Road.{estimate_of}
use Rattle.layout.specs.Layout.{placed}
use Rattle.smoothing.specs.Smoother.{Slot}
use Rattle.duty.specs.Buffer.{pair_at, slot_numbers, slots_of, duty_of}
use Rattle.rts_road.specs.Slot.{slot_of_two}
use Rattle.duty.proofs.Pairs.{Paired, paired_at}
use Rattle.duty.proofs.Stores.{Slotted, stored-slots}
use Rattle.tracking.specs.Track.{Tracked, rejected, tracked, and_then, at_reading, filter, slot_of, slots_from}

-- ---- readings one after another
drop_more : {A B : Type 0} (f : A → B) (k : ℕ) (l : List A) (d : A) → k < length l → drop k (map f l) ≡ f (get_or l k d) ∷ drop (suc k) (map f l)
drop_more f k [] d h = absurd (omega arith)
drop_more f zero (x ∷ l) d h = refl
drop_more f (suc k) (x ∷ l) d h = drop_more f k l d (omega arith)

drop-none : {A B : Type 0} (f : A → B) (l : List A) → drop (length l) (map f l) ≡ []
drop-none f [] = refl
drop-none f (x ∷ l) = drop-none f l

-- slots in front of those that follow
abbrev before : List Slot → Tracked (List Slot) → Tracked (List Slot)
before a o = and_then o λ s. tracked (a ++ s)

before_more : (a : List Slot) (x : Slot) (o : Tracked (List Slot)) → before a (and_then o λ s. tracked (x ∷ s)) ≡ before (a ++ (x ∷ [])) o
before_more a x (rejected k) = refl
before_more a x (tracked s) = ap tracked (sym (append_assoc a (x ∷ []) s))

-- a slot by its numbers, of two states
slotted-two : (e y : Pair) → Slotted 2 (slot_of_two e y)
unfolding pair_at
slotted-two e y = record { filtered = two e; predicted = two y }
  where
    two : (e : Pair) → Paired 2 (estimate_of e)
    two e = paired_at 2 (e.x0 ∷ e.x1 ∷ e.p.a ∷ e.p.b ∷ e.p.c ∷ e.p.d ∷ []) 0

module _ {A : Type 0} (M : Motion) (Y : Sensor Matrix) (start : Estimate) (f : A → Option Vector) (rs : List A) (b₀ : List Float) where
  abbrev readings : List (Option Vector)
  readings = map f rs

  -- k readings are done, e is the estimate then, and b holds the slots
  pub record Storing (k : ℕ) (e : Estimate) (b : List Float) : Type 0 where
    pub within : k ≤ length rs
    pub fits : length rs * 12 ≤ length b₀
    pub long : length b ≡ length b₀
    pub whole : slots_from M Y 0 start readings ≡ before (slots_of 2 b k) (slots_from M Y k e (drop k readings))

  module _ {k : ℕ} {e : Estimate} {b : List Float} (t : Storing k e b) where
    module _ (h : k < length rs) (d : A) where
      -- what the reading answers decides
      abbrev onward : Answer Estimate → Tracked (List Slot)
      onward a = and_then (at_reading k a) λ g. and_then (slots_from M Y (suc k) g (drop (suc k) readings)) λ s. tracked (slot_of M g ∷ s)

      step : {a : Answer Estimate} → filter M Y (f (get_or rs k d)) e ≡ a → slots_from M Y 0 start readings ≡ before (slots_of 2 b k) (onward a)
      unfolding slots_from
      step p =
          t.whole
          ∙ ap (λ (l : List (Option Vector)). before (slots_of 2 b k) (slots_from M Y k e l)) (drop_more f k rs d h)
          ∙ ap (λ (a : Answer Estimate). before (slots_of 2 b k) (onward a)) p

      pub storing_stop : {j : Refusal} → filter M Y (f (get_or rs k d)) e ≡ Err j → rejected k ≡ slots_from M Y 0 start readings
      storing_stop p = sym (step p)

      pub storing_more : {p y : Pair} {b₁ : List Float} → filter M Y (f (get_or rs k d)) e ≡ Ok (estimate_of p) → slot_of_two p y ≡ slot_of M (estimate_of p)
          → b₁ ≡ placed (k * 12) (slot_numbers (slot_of_two p y)) b → length b₁ ≡ length b → Storing (k + 1) (estimate_of p) b₁
      unfolding duty_of
      storing_more {p} {y} {b₁} a s put l =
          let o = slots_from M Y (suc k) (estimate_of p) (drop (suc k) readings) in
          let stored : slots_of 2 b₁ (k + 1) ≡ slots_of 2 b k ++ (slot_of M (estimate_of p) ∷ []) =
          ap (λ (z : List Float). slots_of 2 z (k + 1)) put ∙ stored-slots 2 k [] (slot_of_two p y) b (slotted-two p y) (omega (arith, t.fits, t.long))
          ∙ ap (λ (x : Slot). slots_of 2 b k ++ (x ∷ [])) s in
          record {
            within = omega arith;
            fits = t.fits;
            long = l ∙ t.long;
            whole = step a ∙ before_more (slots_of 2 b k) (slot_of M (estimate_of p)) o ∙ ap₂ (λ (x : List Slot) (n : ℕ). before x (slots_from M Y n (estimate_of p) (drop n readings))) (sym stored) (sym (add-one k));
          }

    pub storing_all : length rs ≤ k → tracked (slots_of 2 b (length rs)) ≡ slots_from M Y 0 start readings
    unfolding slots_from
    storing_all h =
        let c = length rs in
        let e₁ : k ≡ length rs = omega (arith, t.within, h) in
        sym (t.whole ∙ ap (λ (n : ℕ). before (slots_of 2 b n) (slots_from M Y n e (drop n readings))) e₁
        ∙ ap (λ (l : List (Option Vector)). before (slots_of 2 b c) (slots_from M Y c e l)) (drop-none f rs)
        ∙ ap tracked (append-nil (slots_of 2 b c)))
