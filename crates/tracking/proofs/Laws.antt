-- The laws of tracking: the filter's way, then the smoother's. Assumes nothing.
use Prim.Native.Nat.{ℕ, suc, ◌+◌, ◌≤◌, ◌<◌}
use native.Mathlib.Omega.{arith}
use mathlib.Core.Path.{◌≡◌, refl, sym, ap, ◌∙◌, subst}
use mathlib.Core.List.{List, [], ◌∷◌, map, zip_with}
use lib.ListN.{length, length-map}
use lib.Ieee.{Float}
use Rattle.std.specs.Prelude.{Option, Ok, Err}
use Rattle.answer.specs.declared.Refusal.TheVariants.{SingularMatrix}
use Rattle.answer.specs.Answer.{Answer}
use Rattle.algebra.specs.Matrix.{Vector, Matrix}
use Rattle.filtering.specs.Filter.{Motion, Sensor, Estimate}
use Rattle.filtering.specs.Linear.{tracker_motion, tracker_sensor, at_start}
use Rattle.smoothing.specs.Smoother.{Slot, smooth}
use Rattle.smoothing.proofs.Backward.{reaches}
use Rattle.tracking.specs.Track.{Settings, Smoothed, Tracked, rejected, tracked, and_then, at_reading, filter, slot_of, slots_from, refused_at, smoothed_by, duty_of, measured, positions, motion, slots, track}
use Rattle.tracking.specs.Laws.{Latest, Tracks}
use Rattle.tracking.proofs.Latest.{latest_at, Settled, stopped, empty, paired, settled, smoothed-refused, smoothed-answered}

length_zip_with : {A B C : Type 0} (f : A → B → C) (a : List A) (b : List B) → length b ≡ length a → length (zip_with f a b) ≡ length a
unfolding zip_with
length_zip_with f [] b e = refl
length_zip_with f (x ∷ a) [] e = absurd (omega (arith, e))
length_zip_with f (x ∷ a) (y ∷ b) e = ap suc (length_zip_with f a b (omega (arith, e)))

-- ---- the filter, over n readings from number k on: rejected at one of them, or a slot for each
abbrev Places : {A : Type 0} → ℕ → ℕ → Tracked (List A) → Type 0
Places k n (rejected j) = (k ≤ j) × (j < k + n)
Places k n (tracked s) = length s ≡ n

module _ (M : Motion) (Y : Sensor Matrix) where
  further : (k n : ℕ) (f : Estimate) (o : Tracked (List Slot)) → Places (suc k) n o → Places k (suc n) (and_then o λ s. tracked (slot_of M f ∷ s))
  further k n f (rejected j) p = (omega arith, omega arith)
  further k n f (tracked s) p = ap suc p

  places : (k : ℕ) (e : Estimate) (l : List (Option Vector)) → Places k (length l) (slots_from M Y k e l)
  unfolding slots_from
  places k e [] = refl
  places k e (z ∷ l) = go (filter M Y z e) (λ f. places (suc k) f l)
    where
      go : (a : Answer Estimate) → ((f : Estimate) → Places (suc k) (length l) (slots_from M Y (suc k) f l))
          → Places k (suc (length l)) (and_then (at_reading k a) λ f. and_then (slots_from M Y (suc k) f l) λ s. tracked (slot_of M f ∷ s))
      go (Err j) h = (omega arith, omega arith)
      go (Ok f) h = further k (length l) f (slots_from M Y (suc k) f l) (h f)

-- ---- then the smoother
module _ (s : Settings) (l : List (Option Float)) where
  places-stored : Places 0 (length l) (slots s l)
  unfolding slots
  places-stored = subst (λ (n : ℕ). Places 0 n (slots s l)) (length-map l measured) (places (motion s) (tracker_sensor s.measurement) 0 at_start (map measured l))

  abbrev smoothing : List Slot → Tracked (List Smoothed)
  smoothing d = smoothed_by positions (duty_of (motion s) d)

  places-smoothed : (d : List Slot) → length d ≡ length l → (o : Tracked (List Smoothed)) → Settled positions (duty_of (motion s) d) o → Places 0 (length l) o
  places-smoothed d p (rejected k) (stopped e c) = (omega arith, omega (arith, reaches k d c.there, p))
  places-smoothed d p (tracked _) (empty e) = ap length (sym e) ∙ p
  places-smoothed d p (tracked _) (paired {r = r} e c) = length_zip_with positions d r c ∙ p

  places-tracked : Places 0 (length l) (track s l)
  unfolding track
  places-tracked = go (slots s l) places-stored
    where
      go : (o : Tracked (List Slot)) → Places 0 (length l) o → Places 0 (length l) (and_then o smoothing)
      go (rejected k) p = p
      go (tracked d) p = places-smoothed d p (smoothing d) (settled positions (duty_of (motion s) d))

  -- where the slots d are stored, tracking is smoothing them
  module _ (d : List Slot) (e : slots s l ≡ tracked d) where
    track_is : track s l ≡ smoothing d
    unfolding track
    track_is = ap (λ (o : Tracked (List Slot)). and_then o smoothing) e

    refused_to : (k : ℕ) → track s l ≡ rejected k → (smooth (duty_of (motion s) d) ≡ Err SingularMatrix) × Latest 2 d k
    unfolding tracker_motion
    refused_to k h = go (smoothing d) (settled positions (duty_of (motion s) d)) (sym track_is ∙ h)
      where
        go : (o : Tracked (List Smoothed)) → Settled positions (duty_of (motion s) d) o → o ≡ rejected k → (smooth (duty_of (motion s) d) ≡ Err SingularMatrix) × Latest 2 d k
        go (rejected j) (stopped r c) q = (r, subst (Latest 2 d) (cc) c)
        go (tracked x) y q = absurd (let z : ◌≡◌ {A = ℕ} 0 1 = cc in omega arith)

    refused_from : (k : ℕ) → (smooth (duty_of (motion s) d) ≡ Err SingularMatrix) × Latest 2 d k → track s l ≡ rejected k
    unfolding tracker_motion
    refused_from k p = track_is ∙ smoothed-refused positions (duty_of (motion s) d) p.0 ∙ ap refused_at (latest_at 2 d k p.1)

    answers : (r : List Estimate) → smooth (duty_of (motion s) d) ≡ Ok r → track s l ≡ tracked (zip_with positions d r)
    answers r h = track_is ∙ smoothed-answered positions (duty_of (motion s) d) h

pub tracks : Tracks
unfolding track
tracks = record {
  counted = λ s l r e. subst (Places 0 (length l)) e (places-tracked s l);
  placed = λ s l k e. let p : Places {A = Smoothed} 0 (length l) (rejected k) = subst (Places 0 (length l)) e (places-tracked s l) in omega arith;
  filtered = λ s l k e. ap (λ (o : Tracked (List Slot)). and_then o (smoothing s l)) e;
  smoothed = λ s l d e k. (refused_to s l d e k, refused_from s l d e k);
  answers = answers;
}
