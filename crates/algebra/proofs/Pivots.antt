-- Laws of the search for a column's pivot: it is one of the rows searched, it reads their cells alone, and a loop that makes it. Assumes nothing.
use mathlib.Core.Path.{◌≡◌, refl, sym, ap, ◌∙◌}
use mathlib.Core.Bool.{Bool, true, false, cond}
use Prim.Native.Nat.{ℕ, zero, suc, ◌+◌, ◌-◌, ◌≤◌, ◌<◌}
use native.Mathlib.Omega.{arith}
use lib.Ieee.{Float, lt}
use Rattle.scalar.specs.Number.{abs}
use Rattle.answer.proofs.Choice.{cond-true, cond-false}
use Rattle.algebra.specs.Matrix.{Matrix, cell}
use Rattle.algebra.specs.Inverse.{pivot_row}

pick-within : (b : Bool) (x y n : ℕ) → x ≤ n → y ≤ n → cond b x y ≤ n
pick-within true x y n p q = p
pick-within false x y n p q = q

pub pivot-within : (A : Matrix) (c d : ℕ) → pivot_row A c d ≤ c + d
unfolding pivot_row
pivot-within A c zero = omega arith
pivot-within A c (suc d) =
    let below : pivot_row A c d ≤ c + d = pivot-within A c d in
    pick-within (lt (abs (cell A (pivot_row A c d) c)) (abs (cell A (c + suc d) c))) (c + suc d) (pivot_row A c d) (c + suc d) (omega arith) (omega arith)

pub pivot_ext : (A B : Matrix) (c d : ℕ) → ((i : ℕ) → i ≤ c + d → cell A i c ≡ cell B i c) → pivot_row A c d ≡ pivot_row B c d
unfolding pivot_row
pivot_ext A B c zero h = refl
pivot_ext A B c (suc d) h =
    let p : ℕ = pivot_row B c d in
    let below : p ≤ c + d = pivot-within B c d in
    let i : ℕ = c + suc d in
    ap (λ (q : ℕ). cond (lt (abs (cell A q c)) (abs (cell A i c))) i q) (pivot_ext A B c d (λ k l. h k (omega arith)))
    ∙ (λ k. cond (lt (abs (h p (omega arith) k)) (abs (h i (omega arith) k))) i p)

-- ---- the loop

-- the pivot of column c among the rows c to i - 1
abbrev pub best : Matrix → ℕ → ℕ → ℕ
best A c i = pivot_row A c (i - suc c)

best-more : (A : Matrix) (c i : ℕ) → c < i → best A c (i + 1) ≡ cond (lt (abs (cell A (best A c i) c)) (abs (cell A i c))) i (best A c i)
unfolding pivot_row
best-more A c i h =
    let one_more : i + 1 - suc c ≡ suc (i - suc c) = omega arith in
    let last : c + suc (i - suc c) ≡ i = omega arith in
    ap (pivot_row A c) one_more ∙ ap (λ (k : ℕ). cond (lt (abs (cell A (best A c i) c)) (abs (cell A k c))) k (best A c i)) last

-- A loop has gone through the rows c to i - 1 of n, p is the pivot's and x its magnitude: its invariant
pub record Leading (A : Matrix) (c n i p : ℕ) (x : Float) : Type 0 where
  pub after : c < i
  pub within : i ≤ n
  pub is : p ≡ best A c i
  pub below : p < i
  pub magnitude : x ≡ abs (cell A p c)

pub leading_first : (A : Matrix) (c n : ℕ) {x : Float} → c < n → x ≡ abs (cell A c c) → Leading A c n (c + 1) c x
unfolding pivot_row
leading_first A c n h e =
    let none : 0 ≡ c + 1 - suc c = omega arith in
    record { after = omega arith; within = omega arith; is = ap (pivot_row A c) none; below = omega arith; magnitude = e }

module _ {A : Matrix} {c n i p : ℕ} {x : Float} (e : Leading A c n i p x) (h : i < n) {y : Float} (v : y ≡ abs (cell A i c)) where
  best_is : best A c (i + 1) ≡ cond (lt x y) i p
  best_is =
      best-more A c i e.after
      ∙ ap (λ (q : ℕ). cond (lt (abs (cell A q c)) (abs (cell A i c))) i q) (sym e.is)
      ∙ sym (λ k. cond (lt (e.magnitude k) (v k)) i p)

  pub leading_passed : lt x y ≡ true → Leading A c n (i + 1) i y
  leading_passed t = record { after = omega arith; within = omega arith; is = sym (best_is ∙ cond-true i p t); below = omega arith; magnitude = v }

  pub leading_kept : lt x y ≡ false → Leading A c n (i + 1) p x
  leading_kept t = record { after = omega arith; within = omega arith; is = sym (best_is ∙ cond-false i p t); below = omega arith; magnitude = e.magnitude }

pub leading_all : {A : Matrix} {c n i p : ℕ} {x : Float} → Leading A c n i p x → n ≤ i → (p ≡ best A c n) × (p < n)
leading_all {A} {c} {n} {i} e h =
    let same : i ≡ n = omega arith in
    (e.is ∙ ap (best A c) same, omega arith)
