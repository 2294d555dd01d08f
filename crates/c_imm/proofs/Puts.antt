-- A bank that is made of its parts, each put behind those before it. Assumes nothing.
use mathlib.Core.Path.{◌≡◌, sym, ap, ◌∙◌}
use mathlib.Core.List.{List, [], ◌∷◌}
use mathlib.Core.Bool.{true, ◌&&◌}
use Prim.Native.Nat.{ℕ, suc, ◌+◌, ◌-◌, ◌*◌, ◌≤◌, ◌<◌}
use native.Mathlib.Omega.{arith}
use lib.Dec.{eqb}
use lib.ListN.{length, get_or, take}
use lib.Ieee.{Float}
use borrow.Author.Tests.{eqb-true}
use Rattle.std.specs.Prelude.{Ok}
use Rattle.answer.specs.Answer.{Answer, where_sized}
use Rattle.answer.proofs.Answers.{passed, passed_is}
use Rattle.answer.proofs.Choice.{and_left, and_right}
use Rattle.algebra.specs.Array.{cut, pad_row}
use Rattle.algebra.proofs.Arrays.{cut-pad_row}
use Rattle.sizes.specs.declared.Size.{Size}
use Rattle.sizes.specs.Size.{count}
use Rattle.mixing.specs.Mixing.{uniform}
use Rattle.layout.specs.Layout.{joined, placed, put_at, offset, model_length, bank_parts}
use Rattle.layout.proofs.Calls.{slice-put}
use Rattle.layout.proofs.Parts.{Fits, none, more, next-part, all-parts}
use Rattle.c_bank.specs.declared.places.Places.{Places}
use Rattle.c_bank.specs.Bank.{is_bank, is_parts, places_of}
use Rattle.c_bank.proofs.Banks.{Placed, placed_by}
use Rattle.c_bank.proofs.Steps.{length-uniform}

-- ---- slices that are just the parts of a bank of l numbers, but for its probabilities

-- the code's test, where the slice is a bank: each part goes as far as the next one
pub parts-tested : {n m k l : ℕ} {P : Places} (a t c r : ℕ) → Placed n m k l P
    → (eqb a P.transition && eqb t (P.c - P.transition)) && (eqb c (P.r - P.c) && eqb r (P.mu - P.r)) ≡ is_parts n m k l a t c r
unfolding is_parts
parts-tested {n} {m} {k} {P = P} a t c r g =
    let et : P.c - P.transition ≡ k * k = omega (arith, g.c) in
    let ec : P.r - P.c ≡ m * n = omega (arith, g.r) in
    let er : P.mu - P.r ≡ m * m = omega (arith, g.after_r) in
    λ i. sym g.passed i && ((eqb a (g.transition i) && eqb t (et i)) && (eqb c (ec i) && eqb r (er i)))

pub record Given (n m k l : ℕ) (P : Places) (a t c r : List Float) : Type 0 where
  pub passed : is_parts n m k l (length a) (length t) (length c) (length r) ≡ true
  pub places : Placed n m k l P
  pub first : length a ≡ k * model_length n
  pub second : length t ≡ k * k
  pub third : length c ≡ m * n
  pub fourth : length r ≡ m * m

pub given_of : {n m k l : ℕ} (a t c r : List Float) {P : Places} {o : Answer Places} → o ≡ where_sized (is_parts n m k l (length a) (length t) (length c) (length r)) (places_of n m k)
    → o ≡ Ok P → Given n m k l P a t c r
unfolding is_parts
given_of {n} {m} {k} {l} a t c r d q =
    let e = passed _ _ (sym d ∙ q) in
    let all = and_right (is_bank n m k l) _ e in
    let own = and_left _ _ all in
    let shared = and_right (eqb (length a) (k * model_length n) && eqb (length t) (k * k)) _ all in
    record {
      passed = e;
      places = placed_by n m k l (and_left _ _ e) (passed_is _ _ (sym d ∙ q));
      first = eqb-true _ _ (and_left _ _ own);
      second = eqb-true _ _ (and_right (eqb (length a) (k * model_length n)) _ own);
      third = eqb-true _ _ (and_left _ _ shared);
      fourth = eqb-true _ _ (and_right (eqb (length c) (m * n)) _ shared);
    }

-- the parts, with the probabilities of a bank that is made
module _ {n m k l : ℕ} {P : Places} {a t c r : List Float} (g : Given n m k l P a t c r) (f : List Float) where
  abbrev parts : List (List Float)
  parts = a ∷ t ∷ c ∷ r ∷ uniform k ∷ []

  parts-given : Fits (bank_parts n m k) parts
  parts-given =
      let column : length (uniform k) ≡ k * 1 = omega (arith, length-uniform k) in
      more g.first (more g.second (more g.third (more g.fourth (more column none))))

  -- part j is put behind those before it: f₁ has them in front of what f held
  pub put_next : (j : ℕ) {q : ℕ} {f₁ f₂ : List Float} → j < 5 → q ≡ offset (bank_parts n m k) j → q + length (get_or parts j []) ≤ length f₁
      → f₁ ≡ placed 0 (joined (take j parts)) f → f₂ ≡ put_at q (get_or parts j []) f₁ → f₂ ≡ placed 0 (joined (take (suc j) parts)) f
  put_next j {q} {f₁} w et room e d =
      next-part parts-given f j w e (slice-put q f₁ (get_or parts j []) room d ∙ ap (λ (z : ℕ). placed z (get_or parts j []) f₁) et)

  pub put_all : {f₁ : List Float} → length f ≡ l → f₁ ≡ placed 0 (joined parts) f → f₁ ≡ joined parts
  put_all e p = all-parts parts-given f (e ∙ g.places.whole.long) p

  -- the probabilities, as the code puts them
  pub put_last : {q : ℕ} {w f₁ f₂ : List Float} → q ≡ offset (bank_parts n m k) 4 → q + k ≤ length f₁ → f₁ ≡ placed 0 (joined (take 4 parts)) f
      → w ≡ uniform k → f₂ ≡ put_at q w f₁ → f₂ ≡ placed 0 (joined parts) f
  put_last {q} {w} {f₁} et room e p d = put_next 4 (omega arith) et (omega (arith, length-uniform k)) e (d ∙ ap (λ (v : List Float). put_at q v f₁) p)

-- what the code has of them
pub uniform-put : (s : Size) {k : ℕ} {v : List Float} → count s ≡ k → v ≡ pad_row (uniform (count s)) → cut (count s) v ≡ uniform k
uniform-put s e p = ap (cut (count s)) p ∙ cut-pad_row (count s) (uniform (count s)) (length-uniform (count s)) ∙ ap uniform e
