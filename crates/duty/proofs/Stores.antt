-- What a store leaves is the duty with one slot more. Assumes nothing.
use mathlib.Core.Path.{◌≡◌, refl, sym, ap, ap₂, ◌∙◌}
use mathlib.Core.List.{List, [], ◌∷◌, ◌++◌, append_assoc}
use Prim.Native.Nat.{ℕ, zero, suc, ◌+◌, ◌*◌, ◌≤◌}
use native.Mathlib.Numerals.{add-one}
use native.Mathlib.Omega.{arith}
use lib.ListN.{length, take, drop, length-append}
use lib.Seq.{take_at, drop_at, length-take-le, get_or-take}
use lib.Ieee.{Float, nan}
use Rattle.answer.specs.Table.{table}
use Rattle.answer.proofs.Tables.{table_ext}
use Rattle.algebra.specs.Matrix.{Matrix}
use Rattle.algebra.proofs.Matrices.{mat_ext}
use Rattle.filtering.specs.Filter.{Estimate, estimate}
use Rattle.layout.specs.Layout.{placed, pair_length, stride}
use Rattle.layout.proofs.Places.{placed-before, placed-after, length-placed}
use Rattle.layout.proofs.Rows.{ends-within}
use Rattle.smoothing.specs.Smoother.{Slot}
use Rattle.duty.specs.Buffer.{pair_at, slot_from, slot_at, slots_of, duty_of, pair_numbers, slot_numbers}
use Rattle.duty.proofs.Pairs.{Paired, length-pair, pair-back}

abbrev slot_of_pairs : Estimate → Estimate → Slot
slot_of_pairs x y = record { filtered = x; predicted = y }

-- ---- numbers that are placed, also past the end: those before them stay, and to place them again changes nothing
module _ (k : ℕ) (l b : List Float) (h : k ≤ length b) where
  front_kept : take k (placed k l b) ≡ take k b
  unfolding placed
  front_kept = ap (take k) (append_assoc (take k b) l _) ∙ take_at (take k b) _ k (length-take-le k b h)

  placed-twice : placed k l (placed k l b) ≡ placed k l b
  unfolding placed
  placed-twice =
      let long : length (take k b ++ l) ≡ k + length l = length-append (take k b) l ∙ ap (λ (i : ℕ). i + length l) (length-take-le k b h) in
      ap₂ (λ (x y : List Float). x ++ l ++ y) front_kept (drop_at (take k b ++ l) _ (k + length l) long)

  placed-room : k + length l ≤ length (placed k l b)
  unfolding placed
  placed-room = omega (arith, length-append (take k b ++ l) (drop (k + length l) b), length-append (take k b) l, length-take-le k b h)

-- ---- what a slot is read from: numbers before m
pair-front : (n k m : ℕ) (b : List Float) → k + pair_length n ≤ m → pair_at n (take m b) k ≡ pair_at n b k
unfolding pair_at
pair-front n k m b h =
    ap₂ estimate (table_ext n _ _ (λ i p. get_or-take m b _ nan (omega arith)))
    (mat_ext n n _ _ (λ i j p q. get_or-take m b _ nan (omega (arith, ends-within {k = i} {n = n} n p))))

slot-front : (n k m : ℕ) (b : List Float) → k + stride n ≤ m → slot_from n (take m b) k ≡ slot_from n b k
unfolding slot_from
slot-front n k m b h = ap₂ slot_of_pairs (pair-front n k m b (omega arith)) (pair-front n (k + pair_length n) m b (omega arith))

-- ---- a slot of size n that was placed is read back
pub record Slotted (n : ℕ) (s : Slot) : Type 0 where
  pub filtered : Paired n s.filtered
  pub predicted : Paired n s.predicted

slot-back : {n : ℕ} (k : ℕ) (s : Slot) (b : List Float) → Slotted n s → k + length (slot_numbers s) ≤ length b → slot_from n (placed k (slot_numbers s) b) k ≡ s
unfolding slot_from slot_numbers
slot-back {n} k s b h l =
    let f = pair_numbers s.filtered in
    let p = pair_numbers s.predicted in
    let all = length-append f p in
    let first = length-pair h.filtered in
    let second = length-pair h.predicted in
    let long₁ = length-placed (k + length f) p b (omega arith) in
    let long₂ = length-placed k f b (omega arith) in
    let next : k + pair_length n ≡ k + length f = omega arith in
    ap₂ slot_of_pairs
    (ap (λ (c : List Float). pair_at n c k) (sym (placed-before k f p b (omega arith))) ∙ pair-back k (placed (k + length f) p b) h.filtered (omega arith))
    (ap₂ (pair_at n) (sym (placed-after k f p b (omega arith))) next ∙ pair-back (k + length f) (placed k f b) h.predicted (omega arith))

table-last : {A : Type 0} (n : ℕ) (f : ℕ → A) → table (suc n) f ≡ table n f ++ (f n ∷ [])
table-last zero f = refl
table-last {A} (suc n) f = ap (λ (l : List A). f zero ∷ l) (table-last n (λ i. f (suc i)))

-- what a store leaves is the duty with one slot more
pub stored-slots : (n c : ℕ) (F : Matrix) (s : Slot) (b : List Float) → Slotted n s → c * stride n ≤ length b
    → (duty_of n F (placed (c * stride n) (slot_numbers s) b) (c + 1)).slots ≡ (duty_of n F b c).slots ++ (s ∷ [])
unfolding duty_of
stored-slots n c F s b h l =
    let q = c * stride n in
    let b₁ = placed q (slot_numbers s) b in
    ap (slots_of n b₁) (add-one c)
    ∙ table-last c (λ k. slot_at n b₁ k)
    ∙ ap₂ (λ (t : List Slot) (u : Slot). t ++ (u ∷ []))
    (table_ext c (λ k. slot_at n b₁ k) (λ k. slot_at n b k)
    (λ k p.
    let inside : k * stride n + stride n ≤ q = ends-within {k = k} {n = c} (stride n) p in
    sym (slot-front n (k * stride n) q b₁ inside) ∙ ap (λ (a : List Float). slot_from n a (k * stride n)) (front_kept q (slot_numbers s) b l) ∙ slot-front n (k * stride n) q b inside))
    (ap (λ (a : List Float). slot_from n a q) (sym (placed-twice q (slot_numbers s) b l)) ∙ slot-back q s b₁ h (placed-room q (slot_numbers s) b l))
