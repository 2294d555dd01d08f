-- An update of one road, by what the inversion of its one innovation variance answers. Assumes nothing.
use mathlib.Core.Path.{◌≡◌, sym, ap, ◌∙◌}
use mathlib.Core.List.{[], ◌∷◌}
use lib.Ieee.{Float}
use Rattle.std.specs.Prelude.{Ok, Err}
use Rattle.answer.specs.declared.Refusal.{Refusal}
use Rattle.answer.specs.Answer.{Answer, mapped}
use Rattle.answer.specs.Outcome.{unchanged, ◌else_leave◌then◌}
use Rattle.scalar.specs.Number.{◌⊕◌, ◌⊖◌, ◌⊗◌, +0}
use Rattle.algebra.specs.Matrix.{Matrix, sum_from, mul, matvec, transpose, add, vec_sub, one_by_one}
use Rattle.small_inverse.specs.Two.{inv_number}
use Rattle.small_inverse.proofs.Two.{number_is}
use Rattle.filtering.specs.Filter.{Estimate, propagated, innovation}
use Rattle.filtering.specs.Linear.{correction, update}
use Rattle.road.specs.declared.Pair.{Pair}
use Rattle.road.specs.declared.Sensor.{Sensor}
use Rattle.road.specs.declared.Innovation.{Innovation}
use Rattle.road.specs.Road.{sensor_of, estimate_of, corrected_of, corrected_by, updated_of}

module _ (f : Sensor) (z : Float) (e : Pair) where
  -- H P Hᵀ + R, and z - H x, as the code has them
  abbrev pub variance : Float
  variance = +0 ⊕ (+0 ⊕ f.h0 ⊗ e.p.a ⊕ f.h1 ⊗ e.p.c) ⊗ f.h0 ⊕ (+0 ⊕ f.h0 ⊗ e.p.b ⊕ f.h1 ⊗ e.p.d) ⊗ f.h1 ⊕ f.r

  abbrev residual : Float
  residual = z ⊖ (+0 ⊕ f.h0 ⊗ e.x0 ⊕ f.h1 ⊗ e.x1)

  abbrev found : Float → Innovation
  found w = record { innovation = residual; inverse = w }

  abbrev of : Answer Matrix → Answer Float × Estimate
  of a = updated_of (estimate_of e) (a else_leave unchanged then correction (sensor_of f) (z ∷ []) (estimate_of e))

  inverted : {a : Answer Float} → inv_number variance ≡ a → of (mapped one_by_one a) ≡ updated_of (estimate_of e) (update (sensor_of f) (z ∷ []) (estimate_of e))
  unfolding update propagated sum_from mul transpose add
  inverted q = sym (ap of (number_is variance ∙ ap (mapped one_by_one) q))

  pub when_answered : {w : Float} → inv_number variance ≡ Ok w
      → (Ok residual, corrected_of (sensor_of f) (estimate_of e) (found w)) ≡ updated_of (estimate_of e) (update (sensor_of f) (z ∷ []) (estimate_of e))
  unfolding correction innovation vec_sub matvec sum_from
  when_answered q = inverted q

  pub when_refused : {k : Refusal} → inv_number variance ≡ Err k → (Err k, estimate_of e) ≡ updated_of (estimate_of e) (update (sensor_of f) (z ∷ []) (estimate_of e))
  when_refused q = inverted q

-- what an update tells and leaves, by what it finds
abbrev pub told_by : Sensor → Pair → Answer Innovation → Answer Float × Estimate
told_by f e a = (mapped (λ i. i.innovation) a, corrected_by (sensor_of f) (estimate_of e) a)
