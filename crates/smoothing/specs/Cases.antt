-- The worked cases of smoothing: the one marked for proof in document 01, and the two refusals. Definitions only.
use Rattle.answer.specs.declared.Refusal.TheVariants.{InsufficientData, SingularMatrix}
use Rattle.algebra.specs.Matrix.{one_by_one}
use Rattle.std.specs.Prelude.{◌≡◌, List, [], ◌∷◌, Float, Ok, Err}
use Rattle.algebra.specs.Values.{n0, n1, n2, n3, ¾}
use Rattle.filtering.specs.Filter.{Estimate, estimate}
use Rattle.smoothing.specs.Smoother.{Slot, Duty, smooth}

-- state size 1, transition 1
abbrev pair : Float → Float → Estimate
pair x p = estimate (x ∷ []) (one_by_one p)

abbrev slot : Estimate → Estimate → Slot
slot f p = record { filtered = f; predicted = p }

abbrev duty : List Slot → Duty
duty l = record { size = 1; transition = one_by_one n1; slots = l }

pub record Cases : Type 0 where
  -- smoothing: slot 0 is moved, and slot 1 stays; its predicted pair, which inversion would reject, is not read
  pub smoothing : smooth (duty (slot (pair n1 n1) (pair n1 n2) ∷ slot (pair n3 n1) (pair n0 n0) ∷ [])) ≡ Ok (pair n2 ¾ ∷ pair n3 n1 ∷ [])
  pub smoothing-rejected : smooth (duty (slot (pair n1 n1) (pair n1 n0) ∷ slot (pair n3 n1) (pair n1 n2) ∷ [])) ≡ Err SingularMatrix
  pub smoothing_no_slot : smooth (duty []) ≡ Err InsufficientData
