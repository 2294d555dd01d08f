-- One reading as the code takes it: the predict, and the update by what it answers. Assumes nothing.
use mathlib.Core.Path.{◌≡◌, refl, sym, ap, ◌∙◌}
use mathlib.Core.List.{[], ◌∷◌}
use lib.ListN.{replicate}
use lib.Ieee.{Float}
use Rattle.std.specs.Prelude.{Option, Some, Ok, Err}
use Rattle.scalar.specs.Number.{+0}
use Rattle.answer.specs.Answer.{Answer, mapped}
use Rattle.answer.specs.Outcome.{Outcome, Left, unchanged, this, final, standing, done}
use Rattle.answer.proofs.Answers.{differ, same-refusal}
use Rattle.algebra.specs.Matrix.{Vector, Matrix}
use Rattle.filtering.specs.Filter.{Motion, Sensor, Estimate}
use Rattle.filtering.specs.Linear.{predict, update}
use Rattle.matrix.specs.Result.{as_one}
use Rattle.road.specs.declared.Pair.{Pair}
use Rattle.road.specs.declared.Innovation.{Innovation}
use Rattle.road.specs.Road.{estimate_of, corrected_of, corrected_by, updated_of}
use Rattle.tracking.specs.Track.{moved, corrected, filter}

pub moved_is : (M : Motion) (e r : Estimate) → done tt r ≡ predict M (replicate M.i +0) e → r ≡ moved M e
unfolding moved
moved_is M e r p = ap (λ (o : Outcome Estimate Unit). final e o.left) p

final-standing : {S : Type 0} (e : S) (l : Left S) → final e l ≡ standing (λ s. s) e l
final-standing e unchanged = refl
final-standing e (this s) = refl

-- what an update found, a, decides
found : (Y : Sensor Matrix) (e : Estimate) (a : Answer Innovation) (t : Answer Vector) {q : Estimate} → mapped (λ i. i.innovation) a ≡ as_one t → q ≡ corrected_by Y e a
    → mapped (corrected_of Y e) a ≡ mapped (λ y. q) t
found Y e (Err k) (Err j) x y = ap Err (same-refusal x)
found Y e (Err k) (Ok v) x y = absurd (differ x)
found Y e (Ok i) (Err j) x y = absurd (differ (sym x))
found Y e (Ok i) (Ok v) x y = ap Ok (sym y)

pub updated : (Y : Sensor Matrix) (z : Float) (e : Estimate) (a : Answer Innovation) → (mapped (λ i. i.innovation) a, corrected_by Y e a) ≡ updated_of e (update Y (z ∷ []) e)
    → mapped (corrected_of Y e) a ≡ corrected Y (Some (z ∷ [])) e
unfolding corrected
updated Y z e a u =
    let o = update Y (z ∷ []) e in
    found Y e a o.told (ap (λ (w : Answer Float × Estimate). w.0) u) (final-standing e o.left ∙ sym (ap (λ (w : Answer Float × Estimate). w.1) u))

-- a reading's filtering, where m is the estimate predicted, and a what the update gives
pub filtered : (M : Motion) (Y : Sensor Matrix) (z : Option Vector) (e : Estimate) {m : Estimate} (a : Answer Pair) → m ≡ moved M e → mapped estimate_of a ≡ corrected Y z m
    → mapped estimate_of a ≡ filter M Y z e
unfolding filter
filtered M Y z e a em er = er ∙ ap (corrected Y z) em
