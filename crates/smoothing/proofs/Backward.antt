-- Laws of the backward pass, for any kind of slot. Assumes nothing.
use mathlib.Core.Path.{◌≡◌, refl, sym, ap, ap₂, ◌∙◌, subst}
use mathlib.Core.List.{List, [], ◌∷◌, ◌++◌, map}
use Prim.Native.Nat.{ℕ, zero, suc, ◌<◌, zero-le, suc-le-suc}
use native.Mathlib.Nat.{le_of_suc-le-suc, not-suc-le-zero}
use lib.ListN.{length, drop}
use Rattle.std.specs.Prelude.{Ok, Err}
use Rattle.answer.specs.declared.Refusal.TheVariants.{InsufficientData}
use Rattle.answer.specs.Table.{table}
use Rattle.answer.specs.declared.Refusal.{Refusal}
use Rattle.answer.specs.Answer.{Answer, and_then, mapped}
use Rattle.smoothing.specs.Backward.{Results, listed, in_front, back, pass, BeforeLast, this, later, Same, last, slot}
use Rattle.answer.proofs.Answers.{differ, same-refusal, same_answer}

-- one step back, whatever stands after it
module _ {G P : Type 0} where
  abbrev pub onto : (P → G → P) → Answer G → Answer (Results P) → Answer (Results P)
  onto f h a = and_then a λ r. and_then h λ g. Ok (in_front (f r.first g) r)

  step_tail : (f : P → G → P) (h : Answer G) (a : Answer (Results P)) (r : List P) → mapped listed (onto f h a) ≡ Ok r → mapped listed a ≡ Ok (drop 1 r)
  step_tail f h (Err k) r e = absurd (differ e)
  step_tail f (Err k) (Ok q) r e = absurd (differ e)
  step_tail f (Ok g) (Ok q) r e = ap (λ (l : List P). Ok (drop 1 l)) (same_answer e)

  step_count : (f : P → G → P) (h : Answer G) (a : Answer (Results P)) (r : List P) → mapped listed (onto f h a) ≡ Ok r → length r ≡ suc (length (drop 1 r))
  step_count f h (Err k) r e = absurd (differ e)
  step_count f (Err k) (Ok q) r e = absurd (differ e)
  step_count f (Ok g) (Ok q) r e = subst (λ (l : List P). length l ≡ suc (length (drop 1 l))) (same_answer e) refl

  -- refused: by what stands after, or by the gain
  step-refused : {X : Type 0} (f : P → G → P) (h : Answer G) (a : Answer (Results P)) (k : Refusal) → mapped listed (onto f h a) ≡ Err k →
      (mapped listed a ≡ Err k → X) → (h ≡ Err k → X) → X
  step-refused f h (Err j) k e x y = x (ap Err (same-refusal e))
  step-refused f (Err j) (Ok q) k e x y = y (ap Err (same-refusal e))
  step-refused f (Ok g) (Ok q) k e x y = absurd (differ (sym e))

  after-refused : (f : P → G → P) (h : Answer G) (a : Answer (Results P)) (k : Refusal) → mapped listed a ≡ Err k → mapped listed (onto f h a) ≡ Err k
  after-refused f h (Err j) k e = ap Err (same-refusal e)
  after-refused f h (Ok q) k e = absurd (differ (sym e))

-- every element has Q
unfoldable pub Each : {A : Type 0} → (A → Type 0) → List A → Type 0
Each Q [] = Unit
Each Q (x ∷ l) = Q x × Each Q l

pub each-table : {A : Type 0} (Q : A → Type 0) (n : ℕ) (f : ℕ → A) → ((i : ℕ) → Q (f i)) → Each Q (table n f)
unfolding Each
each-table Q zero f h = tt
each-table Q (suc n) f h = (h zero, each-table Q n (λ i. f (suc i)) (λ i. h (suc i)))

drop_past : {A : Type 0} (k : ℕ) (l : List A) → drop k (drop 1 l) ≡ drop (suc k) l
drop_past zero [] = refl
drop_past (suc k) [] = refl
drop_past k (x ∷ l) = refl

step-each : {G P : Type 0} (Q : P → Type 0) (f : P → G → P) → ((p : P) (g : G) → Q (f p g)) → (h : Answer G) (a : Answer (Results P)) (r : List P) → mapped listed (onto f h a) ≡ Ok r
    → Each Q (drop 1 r) → Each Q r
unfolding Each
step-each Q f m h (Err k) r e = absurd (differ e)
step-each Q f m (Err k) (Ok q) r e = absurd (differ e)
step-each {P = P} Q f m (Ok g) (Ok q) r e = subst (λ (l : List P). Each Q (drop 1 l) → Each Q l) (same_answer e) (λ rest. (m q.first g, rest))

-- a list with something from k on is longer than k
pub reaches : {A : Type 0} (k : ℕ) (l : List A) {x : A} {m : List A} → drop k l ≡ x ∷ m → k < length l
reaches k [] e = absurd (empty k e)
  where
    IsCons : {A : Type 0} → List A → Type 0
    IsCons [] = ⊥
    IsCons (x ∷ l) = Unit

    empty : {A : Type 0} (k : ℕ) {x : A} {m : List A} → drop k [] ≡ x ∷ m → ⊥
    empty zero e = subst IsCons (sym e) tt
    empty (suc k) e = subst IsCons (sym e) tt
reaches zero (y ∷ l) e = suc-le-suc zero-le
reaches (suc k) (y ∷ l) e = suc-le-suc (reaches k l e)

pub from_end : {A : Type 0} (before : List A) (s : A) → drop (length before) (before ++ (s ∷ [])) ≡ s ∷ []
from_end [] s = refl
from_end (b ∷ before) s = from_end before s

module _ {S G P : Type 0} (start : S → P) (gain : S → Answer G) (move : S → G → P → P) where
  -- the results from any slot on are those of these slots alone
  pub pass-tails : (k : ℕ) (l : List S) (r : List P) → k < length l → pass start gain move l ≡ Ok r → pass start gain move (drop k l) ≡ Ok (drop k r)
  unfolding pass back
  pass-tails zero l r h e = e
  pass-tails (suc k) [] r h e = absurd (not-suc-le-zero h)
  pass-tails (suc k) (s ∷ []) r h e = absurd (not-suc-le-zero (le_of_suc-le-suc h))
  pass-tails (suc k) (s ∷ t ∷ l) r h e =
      pass-tails k (t ∷ l) (drop 1 r) (le_of_suc-le-suc h) (step_tail (λ p g. move s g p) (gain s) (back start gain move t l) r e)
      ∙ ap Ok (drop_past k r)

  -- there is a result for each slot
  pub pass-count : (l : List S) (r : List P) → pass start gain move l ≡ Ok r → length r ≡ length l
  unfolding pass back
  pass-count [] r e = absurd (differ e)
  pass-count (s ∷ []) r e = ap length (sym (same_answer e))
  pass-count (s ∷ t ∷ l) r e =
      step_count (λ p g. move s g p) (gain s) (back start gain move t l) r e
      ∙ ap suc (pass-count (t ∷ l) (drop 1 r) (step_tail (λ p g. move s g p) (gain s) (back start gain move t l) r e))

  -- what holds of what start and move give holds of each result
  pub pass-each : (Q : P → Type 0) → ((s : S) (g : G) (p : P) → Q (move s g p)) → (l : List S) → Each (λ s. Q (start s)) l → (r : List P) → pass start gain move l ≡ Ok r → Each Q r
  unfolding pass back Each
  pass-each Q m [] h r e = absurd (differ e)
  pass-each Q m (s ∷ []) h r e = subst (Each Q) (same_answer e) (h.0, tt)
  pass-each Q m (s ∷ t ∷ l) h r e =
      step-each Q (λ p g. move s g p) (λ p g. m s g p) (gain s) (back start gain move t l) r e
      (pass-each Q m (t ∷ l) h.1 (drop 1 r) (step_tail (λ p g. move s g p) (gain s) (back start gain move t l) r e))

  -- refused with slots: some slot before the last has no gain
  pub pass-refused : (s : S) (l : List S) (k : Refusal) → pass start gain move (s ∷ l) ≡ Err k → BeforeLast (λ s. gain s ≡ Err k) (s ∷ l)
  unfolding pass back
  pass-refused s [] k e = absurd (differ (sym e))
  pass-refused s (t ∷ l) k e =
      step-refused (λ p g. move s g p) (gain s) (back start gain move t l) k e (λ h. later (pass-refused t l k h)) (λ h. this h)

  -- and conversely, where every slot without a gain gives the number k
  module _ (k : Refusal) (only : (s : S) (j : Refusal) → gain s ≡ Err j → j ≡ k) where
    number : (j : Refusal) (l : List S) → BeforeLast (λ s. gain s ≡ Err j) l → j ≡ k
    number j l (this {s = s} h) = only s j h
    number j l (later {t = t} {l = m} b) = number j (t ∷ m) b

    gain-refused : (f : P → G → P) (h : Answer G) (a : Answer (Results P)) → h ≡ Err k → ((j : Refusal) → mapped listed a ≡ Err j → j ≡ k) → mapped listed (onto f h a) ≡ Err k
    gain-refused f h (Err j) e c = ap Err (c j refl)
    gain-refused f h (Ok q) e c = ap (λ (x : Answer G). mapped listed (onto f x (Ok q))) e

    pub refused-pass : (l : List S) → BeforeLast (λ s. gain s ≡ Err k) l → pass start gain move l ≡ Err k
    unfolding pass back
    refused-pass l (this {s = s} {t = t} {l = m} h) =
        gain-refused (λ p g. move s g p) (gain s) (back start gain move t m) h (λ j e. number j (t ∷ m) (pass-refused t m j e))
    refused-pass l (later {s = s} {t = t} {l = m} b) =
        after-refused (λ p g. move s g p) (gain s) (back start gain move t m) k (refused-pass (t ∷ m) b)

  -- what is refused from some slot on is refused
  pub refused_from : (k : ℕ) (l : List S) {j : Refusal} → k < length l → pass start gain move (drop k l) ≡ Err j → pass start gain move l ≡ Err j
  unfolding pass back
  refused_from zero l h e = e
  refused_from (suc k) [] h e = absurd (not-suc-le-zero h)
  refused_from (suc k) (s ∷ []) h e = absurd (not-suc-le-zero (le_of_suc-le-suc h))
  refused_from (suc k) (s ∷ t ∷ l) {j} h e =
      after-refused (λ p g. move s g p) (gain s) (back start gain move t l) j (refused_from k (t ∷ l) (le_of_suc-le-suc h) e)

  -- for a loop that goes back: the step that is answered, and the one that is refused
  pub back_step : (s t : S) (l : List S) {r : Results P} {g : G} → back start gain move t l ≡ Ok r → gain s ≡ Ok g →
      back start gain move s (t ∷ l) ≡ Ok (in_front (move s g r.first) r)
  unfolding back
  back_step s t l p q = ap₂ (λ (a : Answer (Results P)) (h : Answer G). onto (λ p g. move s g p) h a) p q

  pub back_stop : (s t : S) (l : List S) {r : Results P} {k : Refusal} → back start gain move t l ≡ Ok r → gain s ≡ Err k →
      back start gain move s (t ∷ l) ≡ Err k
  unfolding back
  back_stop s t l p q = ap₂ (λ (a : Answer (Results P)) (h : Answer G). onto (λ p g. move s g p) h a) p q

  -- the same slots, but for what start does not read of the last
  whole : List S → Answer (Results P)
  whole [] = Err InsufficientData
  whole (s ∷ l) = back start gain move s l

  pass-whole : (l : List S) → pass start gain move l ≡ mapped listed (whole l)
  unfolding pass whole
  pass-whole [] = refl
  pass-whole (s ∷ l) = refl

  same_whole : (l m : List S) → Same start l m → whole l ≡ whole m
  unfolding whole back
  same_whole l m (last e) = ap (λ (p : P). Ok (record { first = p; later = [] })) e
  same_whole l m (slot {s = s} {t = t} {u = u} {v = v} {l = l'} {m = m'} e c) =
      ap₂ (λ (x : S) (a : Answer (Results P)). onto (λ p g. move x g p) (gain x) a) e (same_whole (u ∷ l') (v ∷ m') c)

  pub same-pass : (l m : List S) → Same start l m → pass start gain move l ≡ pass start gain move m
  same-pass l m c = pass-whole l ∙ ap (mapped listed) (same_whole l m c) ∙ sym (pass-whole m)

-- there is a slot in lists that are the same
pub same-reaches : {S R : Type 0} (read : S → R) (i j : ℕ) (l m : List S) → Same read (drop i l) (drop j m) → (i < length l) × (j < length m)
same-reaches {S = S} read i j l m c = go (drop i l) (drop j m) refl refl c
  where
    go : (x y : List S) → drop i l ≡ x → drop j m ≡ y → Same read x y → (i < length l) × (j < length m)
    go x y e h (last p) = (reaches i l e, reaches j m h)
    go x y e h (slot p c) = (reaches i l e, reaches j m h)

-- A part of each result that a part of each slot decides is passed back by itself: start', gain and move' work on the parts
module _ {S G P K C : Type 0} (start : S → P) (gain : S → Answer G) (move : S → G → P → P)
    (κ : S → K) (ρ : P → C) (start' : K → C) (gain' : K → Answer G) (move' : K → G → C → C)
    (starts : (s : S) → ρ (start s) ≡ start' (κ s)) (gains : (s : S) → gain s ≡ gain' (κ s)) (moves : (s : S) (g : G) (p : P) → ρ (move s g p) ≡ move' (κ s) g (ρ p)) where
  parts : Results P → Results C
  parts r = record { first = ρ r.first; later = map ρ r.later }

  step-parts : (s : S) (h : Answer G) (a : Answer (Results P)) →
      mapped parts (onto (λ p g. move s g p) h a) ≡ onto (λ c g. move' (κ s) g c) h (mapped parts a)
  unfolding parts
  step-parts s h (Err k) = refl
  step-parts s (Err k) (Ok q) = refl
  step-parts s (Ok g) (Ok q) = ap (λ (c : C). Ok (record { first = c; later = ρ q.first ∷ map ρ q.later })) (moves s g q.first)

  back-parts : (s : S) (l : List S) → mapped parts (back start gain move s l) ≡ back start' gain' move' (κ s) (map κ l)
  unfolding back parts
  back-parts s [] = ap (λ (c : C). Ok (record { first = c; later = [] })) (starts s)
  back-parts s (t ∷ l) =
      step-parts s (gain s) (back start gain move t l)
      ∙ ap (λ (h : Answer G). onto (λ c g. move' (κ s) g c) h (mapped parts (back start gain move t l))) (gains s)
      ∙ ap (λ (a : Answer (Results C)). onto (λ c g. move' (κ s) g c) (gain' (κ s)) a) (back-parts t l)

  listed-parts : (a : Answer (Results P)) → mapped (map ρ) (mapped listed a) ≡ mapped listed (mapped parts a)
  unfolding parts
  listed-parts (Err k) = refl
  listed-parts (Ok q) = refl

  pub pass-parts : (l : List S) → mapped (map ρ) (pass start gain move l) ≡ pass start' gain' move' (map κ l)
  unfolding pass
  pass-parts [] = refl
  pass-parts (s ∷ l) = listed-parts (back start gain move s l) ∙ ap (mapped listed) (back-parts s l)
