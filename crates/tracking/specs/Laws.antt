-- What holds of tracking, for all settings and readings: the laws that `track_laws` promises. Definitions only.
use Rattle.std.specs.Prelude.{ℕ, ◌<◌, ◌≡◌, ◌↔◌, length, drop, Float, Option, Ok, Err}
use mathlib.Core.List.{List, ◌∷◌, zip_with}
use Rattle.answer.specs.declared.Refusal.TheVariants.{SingularMatrix}
use Rattle.filtering.specs.Filter.{Estimate}
use Rattle.smoothing.specs.Smoother.{Slot, smooth}
use Rattle.smoothing.specs.Backward.{BeforeLast}
use Rattle.smoothing.specs.Demand3.{Rejected}
use Rattle.tracking.specs.Track.{Settings, Smoothed, rejected, tracked, duty_of, motion, positions, slots, track}

-- slot k of l stands before the last and is rejected, and no later one before the last is
pub record Latest (n : ℕ) (l : List Slot) (k : ℕ) : Type 0 where
  pub slot : Slot
  pub next : Slot
  pub later : List Slot
  pub there : drop k l ≡ slot ∷ next ∷ later
  pub is_rejected : Rejected n slot
  pub no_later : BeforeLast (Rejected n) (next ∷ later) → ⊥

pub record Tracks : Type 0 where
  -- as many results as readings
  pub counted : (s : Settings) (l : List (Option Float)) (r : List Smoothed) → track s l ≡ tracked r → length r ≡ length l
  -- a rejection is at one of the readings
  pub placed : (s : Settings) (l : List (Option Float)) (k : ℕ) → track s l ≡ rejected k → k < length l
  -- the filter comes first
  pub filtered : (s : Settings) (l : List (Option Float)) (k : ℕ) → slots s l ≡ rejected k → track s l ≡ rejected k
  -- then the smoother: rejected at slot k just where smoothing is refused with 3 and k is the latest slot rejected
  pub smoothed : (s : Settings) (l : List (Option Float)) (stored : List Slot) → slots s l ≡ tracked stored → (k : ℕ) →
      (track s l ≡ rejected k) ↔ ((smooth (duty_of (motion s) stored) ≡ Err SingularMatrix) × Latest 2 stored k)
  -- and what is smoothed is told, a result for each slot
  pub answers : (s : Settings) (l : List (Option Float)) (stored : List Slot) → slots s l ≡ tracked stored → (r : List Estimate) →
      smooth (duty_of (motion s) stored) ≡ Ok r → track s l ≡ tracked (zip_with positions stored r)
