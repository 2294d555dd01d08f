-- A pass from the last slot back to the first, for any kind of slot S, of gain G and of result P. Definitions only.
-- The last slot's result is `start` of it. An earlier slot's is `move` of it, of its gain, and of the result of the slot after it; where the slot has no gain, the pass is refused.
use Rattle.std.specs.Prelude.{◌≡◌, List, [], ◌∷◌, Ok, Err}
use Rattle.answer.specs.declared.Refusal.TheVariants.{InsufficientData}
use Rattle.answer.specs.Answer.{Answer, and_then, mapped}

-- at least one result: that of the first slot, and those of the later ones
pub record Results (P : Type 0) : Type 0 where
  pub first : P
  pub later : List P

abbrev pub listed : {P : Type 0} → Results P → List P
listed r = r.first ∷ r.later

-- the results of a slot and those after it: its own, in front
abbrev pub in_front : {P : Type 0} → P → Results P → Results P
in_front p r = record { first = p; later = listed r }

module _ {S G P : Type 0} (start : S → P) (gain : S → Answer G) (move : S → G → P → P) where
  -- slot s and the slots l after it
  unfoldable pub back : S → List S → Answer (Results P)
  back s [] = Ok (record { first = start s; later = [] })
  back s (t ∷ l) = and_then (back t l) λ r. and_then (gain s) λ g. Ok (in_front (move s g r.first) r)

  -- all slots; with none, refused with 2
  unfoldable pub pass : List S → Answer (List P)
  pass [] = Err InsufficientData
  pass (s ∷ l) = mapped listed (back s l)

-- ---- words for what is said of a pass

-- some slot before the last has Q
pub data BeforeLast {S : Type 0} (Q : S → Type 0) : List S → Type 0 where
  this : {s t : S} {l : List S} → Q s → BeforeLast Q (s ∷ t ∷ l)
  later : {s t : S} {l : List S} → BeforeLast Q (t ∷ l) → BeforeLast Q (s ∷ t ∷ l)

-- both lists hold the same slots, at least one and equally many; of the two last slots only what is read of them need be the same
pub data Same {S R : Type 0} (read : S → R) : List S → List S → Type 0 where
  last : {s t : S} → read s ≡ read t → Same read (s ∷ []) (t ∷ [])
  slot : {s t u v : S} {l m : List S} → s ≡ t → Same read (u ∷ l) (v ∷ m) → Same read (s ∷ u ∷ l) (t ∷ v ∷ m)
