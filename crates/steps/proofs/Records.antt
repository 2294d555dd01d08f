-- For every filter: the record around the numbers that a step changes, the ways through a step by the tests of its sizes, and one reading's answer. Assumes nothing.
use mathlib.Core.Path.{◌≡◌, refl, sym, ap, ◌∙◌}
use mathlib.Core.List.{List, [], ◌∷◌}
use mathlib.Core.Bool.{Bool, true, false, ◌&&◌}
use Prim.Native.Nat.{ℕ}
use lib.ListN.{length}
use lib.Dec.{eqb}
use lib.Ieee.{Float, nan}
use borrow.Author.Tests.{eqb-true}
use Rattle.std.specs.Prelude.{Ok, Err}
use Rattle.answer.specs.declared.Refusal.{Refusal}
use Rattle.answer.specs.declared.Refusal.TheVariants.{WrongSize}
use Rattle.answer.specs.Answer.{Answer, mapped}
use Rattle.answer.specs.Outcome.{Outcome, Left, unchanged, this, if_fitting, standing, handed}
use Rattle.scalar.specs.Number.{+0}
use Rattle.answer.specs.Table.{table}
use Rattle.answer.proofs.Answers.{differ, same_answer}
use Rattle.answer.proofs.Choice.{and_left, and_right}
use Rattle.answer.proofs.Tables.{table-get_or}
use Rattle.algebra.specs.Matrix.{Vector, at}
use Rattle.algebra.specs.Array.{cut, pad_row}
use Rattle.sizes.specs.declared.Size.{Size}
use Rattle.sizes.specs.Size.{count, size_of, sized}
use Rattle.sizes.proofs.Sizes.{is_count}
use Rattle.steps.specs.Step.{fitting}
use Rattle.matrix.specs.Result.{as_vector, as_one}
use Rattle.steps.proofs.Sizes.{Fits, fits, as_asked}

-- ---- `put` makes the numbers W of what a filter keeps, and `keep` the record F around them
module _ {S W F R T : Type 0} (tell : Answer R → T) (put : S → W) (keep : W → F) (w : W) (o : Outcome S R) where
  pub around : {s : T} {w' : W} → (s, w') ≡ handed tell put w o → (s, keep w') ≡ handed tell (λ e. keep (put e)) (keep w) o
  around {s} {w'} e = (λ k. ((e k).0, keep (e k).1)) ∙ go o.left
    where
      go : (l : Left S) → ◌≡◌ {A = T × F} (tell o.told, keep (standing put w l)) (tell o.told, standing (λ e. keep (put e)) (keep w) l)
      go unchanged = refl
      go (this e) = refl

-- ---- the ways through a step f of the n states and the asked numbers, by its tests: t is that of the sizes
module _ {S W R T : Type 0} (tell : Answer R → T) (put : S → W) (w : W) (f : ℕ → ℕ → Outcome S R) (n m i asked k : ℕ) where
  abbrev of : Outcome S R → T × W
  of o = handed tell put w o

  abbrev whole : T × W
  whole = of (if_fitting (fitting n m i asked k) (f n asked))

  module _ {t : Bool} {y : T × W} (e : t ≡ fitting n m i asked k) where
    fitted : {j l : ℕ} → t ≡ true → j ≡ n → l ≡ asked → y ≡ of (f j l) → y ≡ whole
    fitted h a b q = q ∙ λ d. of (if_fitting ((sym h ∙ e) d) (f (a d) (b d)))

    pub by_road : {b : Bool} → t ≡ true → b ≡ eqb n 2 && eqb asked 1 → b ≡ true → y ≡ of (f 2 1) → y ≡ whole
    by_road h d b q = let s = sym d ∙ b in fitted h (sym (eqb-true n 2 (and_left _ _ s))) (sym (eqb-true asked 1 (and_right (eqb n 2) _ s))) q

    pub by_rows : {N A : Size} → (Fits n m i → sized asked ≡ true) → t ≡ true → N ≡ size_of n → A ≡ size_of asked → y ≡ of (f (count N) (count A)) → y ≡ whole
    by_rows is h a b q = let s = fits n m i asked k (sym e ∙ h) in fitted h (is_count s.states a) (is_count (is s) b) q

    pub unfit : t ≡ false → y ≡ (tell (Err WrongSize), w) → y ≡ whole
    unfit h q = q ∙ λ d. of (if_fitting ((sym h ∙ e) d) (f n asked))

-- the same where the sizes were given by their type: t is the test that they passed
pub by_sizes : {S W R T : Type 0} (tell : Answer R → T) (put : S → W) (w : W) (f : ℕ → ℕ → Outcome S R) {n asked j l : ℕ} {t : Bool} {y : T × W} → t ≡ true → j ≡ n → l ≡ asked
    → y ≡ handed tell put w (f j l) → y ≡ handed tell put w (if_fitting t (f n asked))
by_sizes tell put w f h a b q = q ∙ λ d. handed tell put w (if_fitting (sym h d) (f (a d) (b d)))

-- ---- one number is all of a vector; what an update tells as the vector v, as a number
pub one_number : (y : Vector) → length y ≡ 1 → at y 0 ∷ [] ≡ y
one_number y l = ap (λ (k : ℕ). table k (at y)) (sym l) ∙ table-get_or y nan

pub one_mapped : (a : Answer Vector) → ((y : Vector) → a ≡ Ok y → length y ≡ 1) → mapped (λ c. at c 0) (as_vector a) ≡ as_one a
one_mapped (Err k) l = refl
one_mapped (Ok y) l = ap Ok (ap (λ (u : Vector). at (pad_row u) 0) (sym (one_number y (l y refl))))

pub one_value : (a : Answer Vector) {v : Answer (List Float)} {c : List Float} → ((y : Vector) → a ≡ Ok y → length y ≡ 1) → v ≡ as_vector a → v ≡ Ok c → Ok (at c 0) ≡ as_one a
one_value (Err k) l q s = cc
one_value (Ok y) l q s = ap Ok (ap (λ (u : Vector). at u 0) (same_answer (sym s ∙ q)) ∙ ap (λ (u : Vector). at (pad_row u) 0) (sym (one_number y (l y refl))))

pub one_no_value : (a : Answer Vector) {v : Answer (List Float)} {k : Refusal} → v ≡ as_vector a → v ≡ Err k → Err k ≡ as_one a
one_no_value (Err j) q s = cc
one_no_value (Ok y) q s = cc

-- ---- one reading, in the first of four numbers: `by` is the step with m numbers, which tells m
module _ {S : Type 0} (n m i : ℕ) (by : Vector → Outcome S Vector) (z : Float) where
  abbrev pub one_of_four : List Float
  one_of_four = z ∷ +0 ∷ +0 ∷ +0 ∷ []

  abbrev pub stepping : Vector → Outcome S Vector
  stepping v = if_fitting (fitting n m i m 1) (by v)

  pub same-one : stepping (cut m one_of_four) ≡ stepping (z ∷ [])
  unfolding cut
  same-one = go (fitting n m i m 1) refl
    where
      go : (t : Bool) → fitting n m i m 1 ≡ t → if_fitting t (by (cut m one_of_four)) ≡ if_fitting t (by (z ∷ []))
      go true h = ap (λ (m : ℕ). by (cut m one_of_four)) (as_asked n m i m 1 h)
      go false h = refl

  pub one_told : ((y : Vector) → (by (z ∷ [])).told ≡ Ok y → length y ≡ m) → (y : Vector) → (stepping (z ∷ [])).told ≡ Ok y → length y ≡ 1
  one_told l y q = go (fitting n m i m 1) refl q
    where
      go : (t : Bool) → fitting n m i m 1 ≡ t → (if_fitting t (by (z ∷ []))).told ≡ Ok y → length y ≡ 1
      go true h q = l y q ∙ as_asked n m i m 1 h
      go false h q = absurd (differ q)
