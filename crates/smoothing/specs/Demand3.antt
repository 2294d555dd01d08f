-- Demand 3, one claim about whole duties of any length. In proofs/Demand3.antt, `demand3` proves it of `smooth` for every duty of any size. Definitions only.
use Rattle.std.specs.Prelude.{◌≡◌, ◌↔◌, ◌⊎◌, List, [], ◌∷◌, ◌++◌, map, ℕ, ◌<◌, length, drop, Ok, Err}
use Rattle.answer.specs.declared.Refusal.{Refusal}
use Rattle.answer.specs.declared.Refusal.TheVariants.{InsufficientData, SingularMatrix}
use Rattle.answer.specs.Answer.{Answer, mapped}
use Rattle.algebra.specs.Matrix.{Matrix}
use Rattle.algebra.specs.Inverse.{inv}
use Rattle.filtering.specs.Filter.{Estimate}
use Rattle.smoothing.specs.Backward.{BeforeLast, Same}
use Rattle.smoothing.specs.Smoother.{Slot, Duty}

-- inversion rejects the predicted covariance of slot s
abbrev pub Rejected : ℕ → Slot → Type 0
Rejected n s = inv n s.predicted.covariance ≡ Err SingularMatrix

-- the duty of slot k to the last alone
abbrev pub from : ℕ → Duty → Duty
from k d = record { size = d.size; transition = d.transition; slots = drop k d.slots }

-- one state size and one transition
pub record Alike (d e : Duty) : Type 0 where
  pub size : d.size ≡ e.size
  pub transition : d.transition ≡ e.transition

-- a slot without its state vectors
pub record Covariances : Type 0 where
  pub filtered : Matrix
  pub predicted : Matrix

abbrev pub covariances : Slot → Covariances
covariances s = record { filtered = s.filtered.covariance; predicted = s.predicted.covariance }

-- the refusal, or the smoothed covariances
abbrev pub outcome : Answer (List Estimate) → Answer (List Matrix)
outcome a = mapped (map (λ e. e.covariance)) a

-- D is what is smoothed: duties themselves, or calls that are lent one. `duty` says which duty it is, and `run` what is answered
pub record Demand3 {D : Type 0} (duty : D → Duty) (run : D → Answer (List Estimate)) : Type 0 where
  -- refused exactly when no slot is stored, with 2, or when inversion rejects the predicted covariance of some slot before the last, with 3
  pub refusals : (d : D) (k : Refusal) → (run d ≡ Err k) ↔ ((((duty d).slots ≡ []) × (k ≡ InsufficientData)) ⊎ (BeforeLast (Rejected (duty d).size) (duty d).slots × (k ≡ SingularMatrix)))
  -- where it is answered, there is one pair for each slot
  pub count : (d : D) (r : List Estimate) → run d ≡ Ok r → length r ≡ length (duty d).slots
  -- the pairs from any slot to the last are those of smoothing these slots alone
  pub tails : (d e : D) (r : List Estimate) → run d ≡ Ok r → (k : ℕ) → k < length (duty d).slots → duty e ≡ from k (duty d) → run e ≡ Ok (drop k r)
  -- the last pair is the last slot's filtered pair
  pub lasts : (d : D) (r : List Estimate) → run d ≡ Ok r → (before : List Slot) (s : Slot) → (duty d).slots ≡ before ++ (s ∷ [])
      → (q : List Estimate) × (r ≡ q ++ (s.filtered ∷ []))
  -- two duties of one state size and transition that are both answered and agree from a slot on, slot i of one and slot j of the other, the last slot's predicted pair excepted: the pairs are equal from there on
  pub agreeing : (d e : D) → Alike (duty d) (duty e) → (r q : List Estimate) → run d ≡ Ok r → run e ≡ Ok q
      → (i j : ℕ) → Same (λ s. s.filtered) (drop i (duty d).slots) (drop j (duty e).slots) → drop i r ≡ drop j q
  -- two duties that differ only in state vectors get the same refusal, or the same smoothed covariances
  pub stateless : (d e : D) → Alike (duty d) (duty e) → map covariances (duty d).slots ≡ map covariances (duty e).slots → outcome (run d) ≡ outcome (run e)
