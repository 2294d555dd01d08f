-- A filter in a slice, for any noise: what its tests say where they are passed, and how its parts are put one after another. Assumes nothing.
use mathlib.Core.Path.{◌≡◌, refl, sym, ap, ◌∙◌}
use mathlib.Core.List.{List, [], ◌∷◌}
use mathlib.Core.Bool.{Bool, true, false, ◌&&◌}
use Prim.Native.Nat.{ℕ, suc, ◌+◌, ◌-◌, ◌*◌, ◌≤◌, ◌<◌}
use native.Mathlib.Omega.{arith}
use lib.Dec.{eqb}
use lib.ListN.{length, get_or, take, drop, length-take, length-drop}
use lib.Ieee.{Float}
use borrow.Author.Tests.{eqb-true, eq-eqb}
use Rattle.std.specs.Prelude.{Ok, Err}
use Rattle.answer.specs.declared.Refusal.{Refusal}
use Rattle.answer.specs.declared.Refusal.TheVariants.{WrongSize}
use Rattle.answer.specs.Answer.{Answer, where_sized}
use Rattle.answer.proofs.Answers.{differ, same-refusal, passed, passed_is}
use Rattle.answer.proofs.Choice.{and_left, and_right}
use Rattle.sizes.specs.Size.{count}
use Rattle.sizes.proofs.Sizes.{is_count}
use Rattle.layout.specs.Layout.{Parts, joined, placed, put_at, part_size, total, offset}
use Rattle.layout.proofs.Parts.{Fits, none, more, next-part, all-parts, part-within}
use Rattle.layout.proofs.Places.{placed-whole, placed-none, length-placed}
use Rattle.layout.proofs.Calls.{slice-put}
use Rattle.steps.specs.Step.{well_sized}
use Rattle.steps.proofs.Sizes as Sizes
use Rattle.c_copies.specs.declared.Places.{Places}
use Rattle.c_copies.specs.Filter.{filter_parts_by, places_by, is_filter_by, is_step_by, is_step_with_by, is_parts_by}

-- ---- the test of a length is refused with r
pub record Unfit (t : Bool) (r : Refusal) : Type 0 where
  pub fails : t ≡ false
  pub is : r ≡ WrongSize

pub unfit_of : {A : Type 0} (t : Bool) (x : A) {r : Refusal} → Err r ≡ where_sized t x → Unfit t r
unfit_of true x e = absurd (differ e)
unfit_of false x e = record { fails = refl; is = same-refusal e }

-- what a call tells and leaves is K of the refusal, and by its contract H of the test
pub refused : {X : Type 0} (K : Refusal → X) (H : Bool → X) {t : Bool} {r : Refusal} → Unfit t r → K WrongSize ≡ H false → K r ≡ H t
refused K H u p = ap K u.is ∙ p ∙ ap H (sym u.fails)

-- ---- two tests, one after the other
pub both_passed : {a b : Bool} → a ≡ true → b ≡ true → a && b ≡ true
both_passed p q = λ t. p t && q t

pub first_unfit : {a : Bool} (b : Bool) {r : Refusal} → Unfit a r → Unfit (a && b) r
first_unfit b u = record { fails = λ t. u.fails t && b; is = u.is }

pub then_unfit : {a b : Bool} {r : Refusal} → a ≡ true → Unfit b r → Unfit (a && b) r
then_unfit p u = record { fails = λ t. p t && u.fails t; is = u.is }

-- what `fits` answers
abbrev pub Tested : Type 0
Tested = Answer (Unit {0})

pub length_given : {l asked : ℕ} {u : Unit {0}} → ◌≡◌ {A = Tested} (Ok u) (where_sized (eqb l asked) tt) → l ≡ asked
length_given {l} {asked} e = eqb-true l asked (passed _ _ (sym e))

pub length-unfit : (l : ℕ) {asked other : ℕ} {r : Refusal} → ◌≡◌ {A = Tested} (Err r) (where_sized (eqb l asked) tt) → asked ≡ other → Unfit (eqb l other) r
length-unfit l {asked} {other} e d = unfit_of (eqb l other) tt (e ∙ ap (λ (z : ℕ). where_sized (eqb l z) tt) d)

-- ---- a slice of k numbers that passed the test of a filter, and the places P that the test gave
pub record Placed (w : ℕ → ℕ) (n m i k : ℕ) (P : Places) : Type 0 where
  pub sizes : well_sized n m i ≡ true
  pub long : k ≡ total (filter_parts_by w n m i)
  pub states : count P.n ≡ n
  pub measurements : count P.m ≡ m
  pub inputs : count P.i ≡ i
  pub b : P.b ≡ offset (filter_parts_by w n m i) 1
  pub h : P.h ≡ offset (filter_parts_by w n m i) 2
  pub q : P.q ≡ offset (filter_parts_by w n m i) 3
  pub r : P.r ≡ offset (filter_parts_by w n m i) 4
  pub x : P.x ≡ offset (filter_parts_by w n m i) 5
  pub p : P.p ≡ offset (filter_parts_by w n m i) 6
  pub square : P.square ≡ n * n
  pub len : P.len ≡ total (filter_parts_by w n m i)

pub placed_at : (w : ℕ → ℕ) (n m i k : ℕ) {P : Places} → is_filter_by w n m i k ≡ true → P ≡ places_by w n m i → Placed w n m i k P
unfolding is_filter_by
placed_at w n m i k e d =
    let t = and_left (well_sized n m i) _ e in
    let s = Sizes.well_sized_lem n m i t in
    record {
      sizes = t;
      long = eqb-true k _ (and_right (well_sized n m i) _ e);
      states = is_count s.states (ap (λ (z : Places). z.n) d);
      measurements = is_count s.measurements (ap (λ (z : Places). z.m) d);
      inputs = is_count s.inputs (ap (λ (z : Places). z.i) d);
      b = ap (λ (z : Places). z.b) d;
      h = ap (λ (z : Places). z.h) d;
      q = ap (λ (z : Places). z.q) d;
      r = ap (λ (z : Places). z.r) d;
      x = ap (λ (z : Places). z.x) d;
      p = ap (λ (z : Places). z.p) d;
      square = ap (λ (z : Places). z.square) d;
      len = ap (λ (z : Places). z.len) d;
    }

-- a call of `filter` gave the places P
pub record Whole (w : ℕ → ℕ) (n m i k : ℕ) (P : Places) : Type 0 where
  pub passed : is_filter_by w n m i k ≡ true
  pub is : P ≡ places_by w n m i
  pub at : Placed w n m i k P

pub filter_given : (w : ℕ → ℕ) (n m i k : ℕ) {P : Places} → Ok P ≡ where_sized (is_filter_by w n m i k) (places_by w n m i) → Whole w n m i k P
filter_given w n m i k e =
    let t = passed _ _ (sym e) in
    let d = passed_is _ _ (sym e) in
    record { passed = t; is = d; at = placed_at w n m i k t d }

-- a call of `step` gave them, with j numbers beside the filter
pub record Step (w : ℕ → ℕ) (n m i k asked j : ℕ) (P : Places) : Type 0 where
  pub passed : is_step_by w n m i k asked j ≡ true
  pub at : Placed w n m i k P
  pub same : j ≡ asked

pub step_given : (w : ℕ → ℕ) (n m i k asked j : ℕ) {P : Places} → Ok P ≡ where_sized (is_step_by w n m i k asked j) (places_by w n m i) → Step w n m i k asked j P
unfolding is_step_by
step_given w n m i k asked j e =
    let t = passed _ _ (sym e) in
    record {
      passed = t;
      at = placed_at w n m i k (and_left _ _ t) (passed_is _ _ (sym e));
      same = eqb-true j asked (and_right (is_filter_by w n m i k) _ t);
    }

-- ---- a further test of a length, behind that of a filter or of a step
module _ (w : ℕ → ℕ) (n m i k : ℕ) where
  -- n rows of n numbers beside a filter
  pub square-passed : {l asked : ℕ} → is_filter_by w n m i k ≡ true → asked ≡ n * n → l ≡ asked → is_step_by w n m i k (n * n) l ≡ true
  unfolding is_step_by
  square-passed {l} t d e = both_passed t (eq-eqb l (n * n) (e ∙ d))

  -- the numbers of a second slice beside a step
  module _ (asked j : ℕ) where
    pub with-passed : {room l : ℕ} → is_step_by w n m i k asked j ≡ true → l ≡ room → is_step_with_by w n m i k asked j room l ≡ true
    unfolding is_step_with_by
    with-passed {room} {l} t e = both_passed t (eq-eqb l room e)

    pub with-unfit : (l : ℕ) {other room : ℕ} {r : Refusal} → is_step_by w n m i k asked j ≡ true → other ≡ room → ◌≡◌ {A = Tested} (Err r) (where_sized (eqb l other) tt)
        → Unfit (is_step_with_by w n m i k asked j room l) r
    unfolding is_step_with_by
    with-unfit l t d e = then_unfit t (length-unfit l e d)

    pub step-unfit : (room l : ℕ) {r : Refusal} → Err r ≡ where_sized (is_step_by w n m i k asked j) (places_by w n m i) → Unfit (is_step_with_by w n m i k asked j room l) r
    unfolding is_step_with_by
    step-unfit room l e = first_unfit (eqb l room) (unfit_of (is_step_by w n m i k asked j) _ e)

-- ---- slices that are just the parts of a filter of k numbers, whose places are P
pub record Given (w : ℕ → ℕ) (n m i k : ℕ) (P : Places) (a b h q r x p : List Float) : Type 0 where
  pub passed : is_parts_by w n m i k (length a) (length b) (length h) (length q) (length r) (length x) (length p) ≡ true
  pub at : Placed w n m i k P
  pub first : length a ≡ n * n
  pub second : length b ≡ n * i
  pub third : length h ≡ m * n
  pub fourth : length q ≡ n * n
  pub fifth : length r ≡ m * w m
  pub sixth : length x ≡ n
  pub last : length p ≡ n * n

-- the tests of the parts, as they are defined
abbrev pub lengths : (ℕ → ℕ) → ℕ → ℕ → ℕ → ℕ → ℕ → ℕ → ℕ → ℕ → ℕ → ℕ → Bool
lengths w n m i a b h q r x p = (eqb a (n * n) && (eqb b (n * i) && eqb h (m * n))) && ((eqb q (n * n) && eqb r (m * w m)) && (eqb x n && eqb p (n * n)))

pub parts_given : (w : ℕ → ℕ) (n m i k : ℕ) {P : Places} (a b h q r x p : List Float)
    → Ok P ≡ where_sized (is_parts_by w n m i k (length a) (length b) (length h) (length q) (length r) (length x) (length p)) (places_by w n m i)
    → Given w n m i k P a b h q r x p
unfolding is_parts_by
parts_given w n m i k a b h q r x p o =
    let e = passed _ _ (sym o) in
    let all = and_right (is_filter_by w n m i k) _ e in
    let model = and_left _ _ all in
    let rest = and_right (eqb (length a) (n * n) && (eqb (length b) (n * i) && eqb (length h) (m * n))) _ all in
    let noise = and_left _ _ rest in
    let pair = and_right (eqb (length q) (n * n) && eqb (length r) (m * w m)) _ rest in
    let bh = and_right (eqb (length a) (n * n)) _ model in
    record {
      passed = e;
      at = placed_at w n m i k (and_left _ _ e) (passed_is _ _ (sym o));
      first = eqb-true _ _ (and_left _ _ model);
      second = eqb-true _ _ (and_left _ _ bh);
      third = eqb-true _ _ (and_right (eqb (length b) (n * i)) _ bh);
      fourth = eqb-true _ _ (and_left _ _ noise);
      fifth = eqb-true _ _ (and_right (eqb (length q) (n * n)) _ noise);
      sixth = eqb-true _ _ (and_left _ _ pair);
      last = eqb-true _ _ (and_right (eqb (length x) n) _ pair);
    }

-- the lengths by the places, as the code tests them
pub lengths-tested : {w : ℕ → ℕ} {n m i k : ℕ} {P : Places} → Placed w n m i k P → (a b h q r x p : ℕ)
    → (eqb a P.b && (eqb b (P.h - P.b) && eqb h (P.q - P.h))) && ((eqb q P.square && eqb r (P.x - P.r)) && (eqb x n && eqb p P.square)) ≡ lengths w n m i a b h q r x p
lengths-tested {w} {n} {m} {i} {P = P} A a b h q r x p =
    let ea : P.b ≡ n * n = omega arith in
    let eb : P.h - P.b ≡ n * i = omega arith in
    let eh : P.q - P.h ≡ m * n = omega arith in
    let er : P.x - P.r ≡ m * w m = omega arith in
    λ t. (eqb a (ea t) && (eqb b (eb t) && eqb h (eh t))) && ((eqb q (A.square t) && eqb r (er t)) && (eqb x n && eqb p (A.square t)))

pub parts-given : {w : ℕ → ℕ} {n m i k : ℕ} {P : Places} {a b h q r x p : List Float} → Given w n m i k P a b h q r x p
    → Fits (filter_parts_by w n m i) (a ∷ b ∷ h ∷ q ∷ r ∷ x ∷ p ∷ [])
parts-given {n = n} {x = x} g =
    let column : length x ≡ n * 1 = omega (arith, g.sixth) in
    more g.first (more g.second (more g.third (more g.fourth (more g.fifth (more column (more g.last none))))))

-- ---- the parts put one after another into f
module _ {w : ℕ → ℕ} {n m i k : ℕ} {P : Places} {a b h q r x p : List Float} (g : Given w n m i k P a b h q r x p) (f : List Float) (same : length f ≡ k) where
  abbrev parts : List (List Float)
  parts = a ∷ b ∷ h ∷ q ∷ r ∷ x ∷ p ∷ []

  abbrev L : Parts
  L = filter_parts_by w n m i

  -- f₁ has the first j parts in front of what f held
  record Put (j : ℕ) (f₁ : List Float) : Type 0 where
    is : f₁ ≡ placed 0 (joined (take j parts)) f
    long : length f₁ ≡ k

  put_next : (j : ℕ) {t : ℕ} {f₁ f₂ : List Float} → j < 7 → length (get_or parts j []) ≡ part_size L j → t ≡ offset L j → Put j f₁ → f₂ ≡ put_at t (get_or parts j []) f₁
      → Put (suc j) f₂
  put_next j {t} {f₁} l size et F d =
      let part = get_or parts j [] in
      let within = part-within L j l in
      let whole = g.at.long in
      let room : t + length part ≤ length f₁ = omega (arith, F.long) in
      let e = slice-put t f₁ part room d in
      record {
        is = next-part (parts-given g) f j l F.is (e ∙ ap (λ (z : ℕ). placed z part f₁) et);
        long = ap length e ∙ length-placed t part f₁ room ∙ F.long;
      }

  pub put_all : {f₁ f₂ f₃ f₄ f₅ f₆ f₇ : List Float} → f₁ ≡ put_at 0 a f → f₂ ≡ put_at P.b b f₁ → f₃ ≡ put_at P.h h f₂ → f₄ ≡ put_at P.q q f₃ → f₅ ≡ put_at P.r r f₄
      → f₆ ≡ put_at P.x x f₅ → f₇ ≡ put_at P.p p f₆ → f₇ ≡ joined parts
  put_all e₁ e₂ e₃ e₄ e₅ e₆ e₇ =
      let d₁ = put_next 0 (omega arith) g.first refl (record { is = sym (placed-none 0 f); long = same }) e₁ in
      let d₂ = put_next 1 (omega arith) g.second g.at.b d₁ e₂ in
      let d₃ = put_next 2 (omega arith) g.third g.at.h d₂ e₃ in
      let d₄ = put_next 3 (omega arith) g.fourth g.at.q d₃ e₄ in
      let d₅ = put_next 4 (omega arith) g.fifth g.at.r d₄ e₅ in
      let d₆ = put_next 5 (omega arith) (omega (arith, g.sixth)) g.at.x d₅ e₆ in
      let d₇ = put_next 6 (omega arith) g.last g.at.p d₆ e₇ in
      all-parts (parts-given g) f (same ∙ g.at.long) d₇.is

-- ---- the n numbers of f from number k on are copied into all of o, from j to e as the code has it
pub copied : {n k j e : ℕ} (f o : List Float) {o₁ : List Float} → j ≡ k → e ≡ k + n → length o ≡ n → k + n ≤ length f → o₁ ≡ put_at 0 (take (e - j) (drop j f)) o → o₁ ≡ take n (drop k f)
copied {n} {k} {j} {e} f o d q l h p =
    let w : e - j ≡ n = omega arith in
    let same : take (e - j) (drop j f) ≡ take n (drop k f) = λ t. take (w t) (drop (d t) f) in
    let long : length (take n (drop k f)) ≡ n = simp (length-take, length-drop) (omega arith) in
    slice-put 0 o (take n (drop k f)) (omega (arith, long, l)) (p ∙ ap (λ (t : List Float). put_at 0 t o) same) ∙ placed-whole (take n (drop k f)) o (long ∙ sym l)
