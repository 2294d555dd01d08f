-- The laws of verdicts and tests: what a composition that gives something says of its parts. Assumes nothing.
use mathlib.Core.Path.{◌≡◌, refl, ap, subst}
use mathlib.Core.Bool.{Bool, true, false, ◌&&◌, cond}
use mathlib.Core.List.{List, ◌∷◌}
use Prim.Native.Nat.{ℕ, suc}
use lib.ListN.{length}
use Rattle.std.specs.Prelude.{Ok, Err}
use Rattle.sheets.specs.declared.SheetRefusal.{SheetRefusal}
use Rattle.sheets.specs.Verdict.{Verdict, then, mapped, prepend}

-- ---- tests

pub and_l : (a b : Bool) → (a && b) ≡ true → a ≡ true
and_l true b e = refl
and_l false b e = e

pub and_r : (a b : Bool) → (a && b) ≡ true → b ≡ true
and_r true b e = e
and_r false b e = cc

pub and_left : (a b : Bool) → a ≡ false → (a && b) ≡ false
and_left a b e = rw e

pub and_right : (a b : Bool) → a ≡ true → (a && b) ≡ b
and_right a b e = rw e

pub and_false : (a b : Bool) → b ≡ false → (a && b) ≡ false
and_false true b e = e
and_false false b e = refl

-- ---- verdicts

pub then-given : {A B : Type 0} (r : Verdict A) (f : A → Verdict B) (b : B) → then r f ≡ Ok b → (a : A) × (r ≡ Ok a) × (f a ≡ Ok b)
then-given (Err w) f b e = cc
then-given (Ok a) f b e = (a, refl, e)

pub mapped-given : {A B : Type 0} (f : A → B) (r : Verdict A) (b : B) → mapped f r ≡ Ok b → (a : A) × (r ≡ Ok a) × (f a ≡ b)
mapped-given f (Err w) b e = cc
mapped-given f (Ok a) b e = (a, refl, cc)

pub cond-given : {A : Type 0} (t : Bool) (a b : A) (w : SheetRefusal) → cond t (Ok a) (Err w) ≡ Ok b → (t ≡ true) × (a ≡ b)
cond-given true a b w e = (refl, cc)
cond-given false a b w e = cc

pub prepend-given : {A : Type 0} (a : A) (r : Verdict (List A)) (rows : List A) → prepend a r ≡ Ok rows → (more : List A) × (r ≡ Ok more) × (a ∷ more ≡ rows)
prepend-given a (Err w) rows e = cc
prepend-given a (Ok more) rows e = (more, refl, cc)

-- ---- n rows, where any are given

unfoldable pub Long : {A : Type 0} → ℕ → Verdict (List A) → Type 0
Long n (Err w) = Unit {0}
Long n (Ok rows) = length rows ≡ n

pub long-prepend : {A : Type 0} (a : A) (n : ℕ) (r : Verdict (List A)) → Long n r → Long (suc n) (prepend a r)
unfolding Long
long-prepend a n (Err w) h = tt
long-prepend a n (Ok rows) h = ap suc h

pub given-long : {A : Type 0} (n : ℕ) (r : Verdict (List A)) (rows : List A) → Long n r → r ≡ Ok rows → length rows ≡ n
unfolding Long
given-long n r rows h e = subst (λ x. Long n x) e h
