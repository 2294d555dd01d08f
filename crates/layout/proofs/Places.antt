-- Laws of numbers placed in a slice: room for them, numbers placed after and before others, and what is read afterwards. Assumes nothing.
use mathlib.Core.Path.{◌≡◌, refl, sym, ap, ap₂, ◌∙◌}
use mathlib.Core.List.{List, [], ◌∷◌, ◌++◌, append_assoc, append-nil}
use mathlib.Core.Bool.{true}
use Prim.Native.Nat.{ℕ, suc, ◌+◌, ◌-◌, ◌≤◌, ◌<◌}
use native.Mathlib.Numerals.{add-one}
use native.Mathlib.Omega.{arith}
use lib.ListN.{length, set, take, drop, length-append, length-take, length-drop, take-append-drop, get_or-append}
use lib.Seq.{append_snoc, set_split, take_at, drop_at, drop-drop, drop-length, length-take-le, take-take, take-append-le, get_or-append-add, get_or-take, get_or-drop}
use lib.Ieee.{Float, nan}
use borrow.Rule.Slice.PartMut.{put_mid}
use borrow.Author.Tests.{leb-true, le-leb}
use Rattle.algebra.specs.Matrix.{at}
use Rattle.layout.specs.Layout.{placed, room}

-- ---- room in a slice
pub room-true : (k n m : ℕ) → k + n ≤ m → room k n m ≡ true
unfolding room
room-true k n m h = le-leb (k + n) m h

pub room_of : (k n m : ℕ) → room k n m ≡ true → k + n ≤ m
unfolding room
room_of k n m e = leb-true (k + n) m e

-- ---- numbers that are placed
pub length-placed : (k : ℕ) (l b : List Float) → k + length l ≤ length b → length (placed k l b) ≡ length b
unfolding placed
length-placed k l b h = simp (length-append, length-take, length-drop) (omega arith)

pub placed-none : (k : ℕ) (b : List Float) → placed k [] b ≡ b
unfolding placed
placed-none k b =
    let e : k + 0 ≡ k = omega arith in
    ap₂ (λ (l : List Float) (j : ℕ). l ++ drop j b) (append-nil (take k b)) e ∙ take-append-drop k b

-- what fills a slice is all that it holds
pub placed-whole : (l b : List Float) → length l ≡ length b → placed 0 l b ≡ l
unfolding placed
placed-whole l b e =
    let all : 0 + length l ≡ length b = omega arith in
    ap (λ (k : ℕ). l ++ drop k b) all ∙ ap (λ (t : List Float). l ++ t) (drop-length b) ∙ append-nil l

-- one number
pub set-placed : (k : ℕ) (x : Float) (b : List Float) → k < length b → set b k x ≡ placed k (x ∷ []) b
unfolding placed
set-placed k x b h = set_split b k x h ∙ sym (append_snoc (take k b) x (drop (suc k) b)) ∙ ap (λ (j : ℕ). take k b ++ (x ∷ []) ++ drop j b) (sym (add-one k))

-- what a part of a slice is overwritten with, where m is l and n its length
pub part-placed : {n : ℕ} (k : ℕ) (l b : List Float) {m : List Float} → m ≡ l → n ≡ length l → put_mid k n b m ≡ placed k l b
unfolding placed
part-placed k l b e h =
    ap₂ (λ (m : List Float) (n : ℕ). put_mid k n b m) e h
    ∙ ap (λ (t : List Float). take k b ++ (l ++ t)) (drop-drop (length l) k b)
    ∙ sym (append_assoc (take k b) l (drop (k + length l) b))

-- m right after l
pub placed-after : (k : ℕ) (l m b : List Float) → k ≤ length b → placed (k + length l) m (placed k l b) ≡ placed k (l ++ m) b
unfolding placed
placed-after k l m b h =
    let front = take k b ++ l in
    let j = k + length l in
    let long : length front ≡ j = simp (length-append, length-take-le) (omega arith) in
    let e : j + length m ≡ k + length (l ++ m) = omega (arith, length-append l m) in
    ap₂ (λ (x y : List Float). x ++ m ++ y) (take_at front (drop j b) j long)
    (sym (drop-drop (length m) j (front ++ drop j b)) ∙ ap (drop (length m)) (drop_at front (drop j b) j long) ∙ drop-drop (length m) j b)
    ∙ ap₂ (λ (x : List Float) (i : ℕ). x ++ drop i b) (append_assoc (take k b) l m) e

-- the same, as two calls leave it
pub then-placed : {k q : ℕ} (l m b : List Float) {b₁ b₂ : List Float} → k ≤ length b → q ≡ k + length l → b₁ ≡ placed k l b → b₂ ≡ placed q m b₁
    → b₂ ≡ placed k (l ++ m) b
then-placed {k} {q} l m b h e p r = r ∙ ap₂ (λ (j : ℕ) (c : List Float). placed j m c) e p ∙ placed-after k l m b h

-- one number more right after l, which b₁ has
pub placed-next : (k : ℕ) (l : List Float) (x : Float) (b : List Float) {b₁ : List Float} → k + length l < length b → b₁ ≡ placed k l b
    → set b₁ (k + length l) x ≡ placed k (l ++ (x ∷ [])) b
placed-next k l x b h e =
    let long = ap length e ∙ length-placed k l b (omega arith) in
    then-placed l (x ∷ []) b (omega arith) refl e (set-placed (k + length l) x _ (omega (arith, long)))

-- m right before l
pub placed-before : (k : ℕ) (m l b : List Float) → k + length m ≤ length b → placed k m (placed (k + length m) l b) ≡ placed k (m ++ l) b
unfolding placed
placed-before k m l b h =
    let j = k + length m in
    let rest = drop (j + length l) b in
    let long : length (take j b) ≡ j = length-take-le j b h in
    let e : j + length l ≡ k + length (m ++ l) = omega (arith, length-append m l) in
    ap (λ (c : List Float). take k c ++ m ++ drop j c) (append_assoc (take j b) l rest)
    ∙ ap₂ (λ (x y : List Float). x ++ m ++ y) (take-append-le k (take j b) (l ++ rest) (omega arith) ∙ take-take k j b (omega arith))
    (drop_at (take j b) (l ++ rest) j long)
    ∙ sym (append_assoc (take k b ++ m) l rest)
    ∙ ap₂ (λ (x : List Float) (i : ℕ). x ++ drop i b) (append_assoc (take k b) m l) e

-- ---- number i, where l was placed from number k on: of l, before it, and past it
module _ (k : ℕ) (l b : List Float) (h : k + length l ≤ length b) where
  pub at_placed : (i : ℕ) → i < length l → at (placed k l b) (k + i) ≡ at l i
  unfolding placed
  at_placed i g =
      let rest = drop (k + length l) b in
      let here : k + i ≡ length (take k b) + i = omega (arith, length-take-le k b (omega arith)) in
      ap₂ (λ (t : List Float) (j : ℕ). at t j) (append_assoc (take k b) l rest) here
      ∙ get_or-append-add (take k b) (l ++ rest) i nan
      ∙ get_or-append l rest nan i g

  pub at_before : (i : ℕ) → i < k → at (placed k l b) i ≡ at b i
  unfolding placed
  at_before i g =
      let rest = drop (k + length l) b in
      ap (λ (t : List Float). at t i) (append_assoc (take k b) l rest)
      ∙ get_or-append (take k b) (l ++ rest) nan i (omega (arith, length-take-le k b (omega arith)))
      ∙ get_or-take k b i nan g

  pub at_past : (i : ℕ) → k + length l ≤ i → at (placed k l b) i ≡ at b i
  unfolding placed
  at_past i g =
      let j = k + length l in
      let front = take k b ++ l in
      let inside : k ≤ length b = omega arith in
      let long : length front ≡ j = simp (length-append, length-take-le) (omega arith) in
      let here : i ≡ length front + (i - j) = omega arith in
      let there : j + (i - j) ≡ i = omega arith in
      ap (at (front ++ drop j b)) here ∙ get_or-append-add front (drop j b) (i - j) nan ∙ get_or-drop j b (i - j) nan ∙ ap (at b) there
