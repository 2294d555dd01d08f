-- The search for the latest slot rejected: the loop has come back to slot k, and none from there on is. Assumes nothing.
use Prim.Native.Nat.{ℕ, zero, suc, ◌+◌, ◌*◌, ◌-◌, ◌<◌, ◌≤◌}
use native.Mathlib.Omega.{arith}
use mathlib.Core.Path.{◌≡◌, refl, sym, ap, ap₂, ◌∙◌}
use mathlib.Core.Bool.{Bool, true, false}
use mathlib.Core.List.{List, [], ◌∷◌}
use lib.ListN.{drop}
use lib.Ieee.{Float}
use Rattle.std.specs.Prelude.{None, Some, Ok, Err, is_err}
use Rattle.answer.specs.Answer.{Answer}
use Rattle.answer.specs.Table.{table}
use Rattle.algebra.specs.Matrix.{Matrix, at, two_by_two}
use Rattle.algebra.specs.Inverse.{inv}
use Rattle.smoothing.specs.Smoother.{Slot}
use Rattle.duty.specs.Buffer.{pair_at, slot_from, slot_at, slots_of}
use Rattle.tracking.specs.Track.{rejects, or_here, latest}
use Rattle.tracking.proofs.Latest.{rejects-true, latest_from, latest-first}

table_from : {A : Type 0} (c : ℕ) (f : ℕ → A) (k : ℕ) → k < c → drop k (table c f) ≡ f k ∷ drop (suc k) (table c f)
table_from zero f k h = absurd (omega arith)
table_from (suc c) f zero h = refl
table_from (suc c) f (suc k) h = table_from c (λ i. f (suc i)) k (omega arith)

table-end : {A : Type 0} (c : ℕ) (f : ℕ → A) → drop c (table c f) ≡ []
table-end zero f = refl
table-end (suc c) f = table-end c (λ i. f (suc i))

-- what is read of slot k
covariance-two : (b : List Float) (k q : ℕ) → q ≡ k * 12 + 8 → two_by_two (at b q) (at b (q + 1)) (at b (q + 2)) (at b (q + 3)) ≡ (slot_at 2 b k).predicted.covariance
unfolding slot_from pair_at
covariance-two b k q e =
    let k0 : q ≡ k * 12 + 6 + 2 + 0 * 2 + 0 = omega arith in
    let k1 : q + 1 ≡ k * 12 + 6 + 2 + 0 * 2 + 1 = omega arith in
    let k2 : q + 2 ≡ k * 12 + 6 + 2 + 1 * 2 + 0 = omega arith in
    let k3 : q + 3 ≡ k * 12 + 6 + 2 + 1 * 2 + 1 = omega arith in
    λ i. two_by_two (at b (k0 i)) (at b (k1 i)) (at b (k2 i)) (at b (k3 i))

-- whether inversion rejects it, as the code tests it
tested : (a : Answer Matrix) → elim a [ Err k ↦ true | Ok W ↦ false ] ≡ is_err a
tested (Err k) = refl
tested (Ok W) = refl

pub rejects_two : (b : List Float) (k q : ℕ) {o : Answer Matrix} {t : Bool} → q ≡ k * 12 + 8
    → o ≡ inv 2 (two_by_two (at b q) (at b (q + 1)) (at b (q + 2)) (at b (q + 3))) → t ≡ is_err o → rejects 2 (slot_at 2 b k) ≡ t
unfolding rejects
rejects_two b k q eq eo et = tested (inv 2 (slot_at 2 b k).predicted.covariance) ∙ ap is_err (sym (eo ∙ ap (inv 2) (covariance-two b k q eq))) ∙ sym et

-- the last of c slots does not count
none_in_last : (b : List Float) (c : ℕ) → latest 2 (drop (c - 1) (slots_of 2 b c)) ≡ None
unfolding latest
none_in_last b zero = let e : 0 - 1 ≡ 0 = omega arith in ap (λ (m : ℕ). latest 2 (drop m (slots_of 2 b 0))) e
none_in_last b (suc c) =
    let e : suc c - 1 ≡ c = omega arith in
    ap (λ (m : ℕ). latest 2 (drop m (slots_of 2 b (suc c)))) e
    ∙ ap (latest 2) (table_from (suc c) (λ i. slot_at 2 b i) c (omega arith) ∙ ap (λ (l : List Slot). slot_at 2 b c ∷ l) (table-end (suc c) (λ i. slot_at 2 b i)))

module _ (b : List Float) (c : ℕ) where
  pub record Searching (k : ℕ) : Type 0 where
    pub below : k ≤ c - 1
    pub no_later : latest 2 (drop k (slots_of 2 b c)) ≡ None

  pub searching-start : {k : ℕ} → k ≡ c - 1 → Searching k
  searching-start e = record { below = omega arith; no_later = ap (λ (m : ℕ). latest 2 (drop m (slots_of 2 b c))) e ∙ none_in_last b c }

  module _ {k j : ℕ} (t : Searching k) (e : suc j ≡ k) where
    two_from : drop j (slots_of 2 b c) ≡ slot_at 2 b j ∷ slot_at 2 b k ∷ drop (suc k) (slots_of 2 b c)
    two_from =
        table_from c (λ i. slot_at 2 b i) j (omega (arith, t.below))
        ∙ ap (λ (l : List Slot). slot_at 2 b j ∷ l) (ap (λ (m : ℕ). drop m (slots_of 2 b c)) e ∙ table_from c (λ i. slot_at 2 b i) k (omega (arith, t.below)))

    none_after : latest 2 (slot_at 2 b k ∷ drop (suc k) (slots_of 2 b c)) ≡ None
    none_after = ap (latest 2) (sym (table_from c (λ i. slot_at 2 b i) k (omega (arith, t.below)))) ∙ t.no_later

    pub searching-more : rejects 2 (slot_at 2 b j) ≡ false → Searching j
    unfolding latest
    searching-more h = record {
      below = omega (arith, t.below);
      no_later = ap (latest 2) two_from ∙ ap₂ or_here h none_after;
    }

    pub searching-found : rejects 2 (slot_at 2 b j) ≡ true → Some j ≡ latest 2 (slots_of 2 b c)
    searching-found h =
        sym (latest_from 2 j (slots_of 2 b c)
        (ap (latest 2) two_from ∙ latest-first 2 (slot_at 2 b j) (slot_at 2 b k) (drop (suc k) (slots_of 2 b c)) (rejects-true 2 (slot_at 2 b j) h) none_after))
