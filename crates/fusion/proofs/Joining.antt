-- A fusion's first word, one sensor more, and its last word, by what is told. Assumes nothing.
use mathlib.Core.Path.{◌≡◌, refl, sym, ap, ◌∙◌}
use mathlib.Core.List.{List, [], ◌∷◌}
use mathlib.Core.Bool.{Bool, true, false}
use Prim.Native.Nat.{ℕ, ◌+◌, ◌≤◌, ◌<◌}
use lib.ListN.{length, get_or, drop}
use Rattle.std.specs.Prelude.{Ok, Err}
use Rattle.std.proofs.Common.{add-one}
use Rattle.std.proofs.Math.Seq.{drop-cons}
use Rattle.std.proofs.lemmas.List.{drop_all}
use Rattle.answer.specs.declared.Refusal.{Refusal}
use Rattle.answer.specs.declared.Refusal.TheVariants.{WrongSize}
use Rattle.answer.specs.declared.Step.{Step}
use Rattle.answer.specs.Answer.{Answer, mapped, where_sized}
use Rattle.answer.specs.Outcome.{only, if_fitting}
use Rattle.answer.proofs.Answers.{differ, same_answer, same-refusal}
use Rattle.steps.specs.Step.{well_sized}
use Rattle.information_filter.specs.declared.InformationFilter.{InformationFilter}
use Rattle.information_filter.specs.declared.Sensor.{Sensor}
use Rattle.information_filter.specs.Record.{stepped, fusing}
use Rattle.fusion.specs.Fusion.{Stepped, begun_of, where_done, joined_of, joined_all, kept_of, ended_of}

-- nothing is refused, and g is left
abbrev pub done_with : InformationFilter → Stepped
done_with g = record { answer = Ok tt; left = g }

-- ---- the first word, by the test of the sizes, whose answer is o
module _ (f : InformationFilter) {A : Type 0} (x : A) {o : Answer A} (e : o ≡ where_sized (well_sized f.n f.m f.i) x) where
  pub begun_sized : {y : A} → o ≡ Ok y → done_with f ≡ begun_of f
  begun_sized {y} d = go (well_sized f.n f.m f.i) e
    where
      go : (b : Bool) → o ≡ where_sized b x → done_with f ≡ stepped f (if_fitting b (only tt))
      go true e = refl
      go false e = absurd (differ (sym e ∙ d))

  pub begun-unsized : {k : Refusal} → o ≡ Err k → (begun_of f).answer ≡ Err k
  begun-unsized {k} d = go (well_sized f.n f.m f.i) e
    where
      go : (b : Bool) → o ≡ where_sized b x → (stepped f (if_fitting b (only tt))).answer ≡ Err k
      go true e = absurd (differ (sym d ∙ e))
      go false e = ap Err (same-refusal (sym e ∙ d))

-- ---- one sensor more, the first of those that are left
module _ (g : InformationFilter) {r : Stepped} (s : Sensor) (e : r ≡ stepped g (fusing g s)) where
  pub joined-done : {u : Unit {0}} → r.answer ≡ Ok u → done_with r.left ≡ joined_of (done_with g) s
  joined-done d = (λ t. record { answer = sym d t; left = r.left }) ∙ e

pub joined_more : (g : Stepped) (l : List Sensor) (i : ℕ) (d : Sensor) → i < length l → joined_all (joined_of g (get_or l i d)) (drop (i + 1) l) ≡ joined_all g (drop i l)
unfolding joined_all
joined_more g l i d h = rw (add-one, drop-cons l i d h)

pub joined_end : (g : Stepped) (l : List Sensor) (i : ℕ) → length l ≤ i → joined_all g (drop i l) ≡ g
unfolding joined_all
joined_end g l i h = rw (drop_all i l h)

-- a refusal stands
pub joined-refused : (l : List Sensor) (g : Stepped) {k : Refusal} → g.answer ≡ Err k → joined_all g l ≡ g
unfolding joined_all
joined-refused [] g e = refl
joined-refused (s ∷ l) g {k} e =
    let stays : joined_of g s ≡ g = ap (λ (a : Answer (Unit {0})). where_done a (stepped g.left (fusing g.left s)) g) e in
    ap (λ (h : Stepped). joined_all h l) stays ∙ joined-refused l g e

pub kept-refused : (g : Stepped) {k : Refusal} → g.answer ≡ Err k → kept_of g ≡ Err k
kept-refused g e = ap (mapped (λ u. g.left)) e

-- ---- the last word
module _ (f : InformationFilter) (g : Stepped) where
  pub ended-done : {l : InformationFilter} → kept_of g ≡ Ok l → done_with l ≡ ended_of g f
  ended-done {l} d = go g.answer refl d
    where
      go : (a : Answer (Unit {0})) → g.answer ≡ a → mapped (λ u. g.left) a ≡ Ok l → done_with l ≡ where_done a g (record { answer = a; left = f })
      go (Err k) q d = absurd (differ d)
      go (Ok tt) q d = λ t. record { answer = sym q t; left = sym (same_answer d) t }

  pub ended-refused : {k : Refusal} → kept_of g ≡ Err k → record { answer = Err k; left = f } ≡ ended_of g f
  ended-refused {k} d = go g.answer d
    where
      go : (a : Answer (Unit {0})) → mapped (λ u. g.left) a ≡ Err k → ◌≡◌ {A = Stepped} (record { answer = Err k; left = f }) (where_done a g (record { answer = a; left = f }))
      go (Err j) d = λ t. record { answer = Err (same-refusal (sym d) t); left = f }
      go (Ok u) d = absurd (differ (sym d))
