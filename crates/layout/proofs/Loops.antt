-- Laws of loops that place rows or copy numbers, and of a row written out number by number. Assumes nothing.
use mathlib.Core.Path.{◌≡◌, refl, sym, ap, ap₂, ◌∙◌}
use mathlib.Core.List.{List, ◌++◌}
use Prim.Native.Nat.{ℕ, ◌+◌, ◌*◌, ◌≤◌, ◌<◌}
use native.Mathlib.Nat.{mul-le-mul_right, suc-mul}
use native.Mathlib.Numerals.{add-one}
use native.Mathlib.Omega.{arith}
use lib.ListN.{length, set, take, drop, length-set}
use lib.Seq.{take-length, paste, paste-zero, paste-suc}
use lib.Ieee.{Float, nan}
use Rattle.answer.specs.Table.{table}
use Rattle.algebra.specs.Matrix.{at}
use Rattle.algebra.specs.Array.{cut}
use Rattle.layout.specs.Layout.{joined, placed}
use Rattle.layout.proofs.Places.{length-placed, placed-none, set-placed, placed-after, placed-next}
use Rattle.layout.proofs.Rows.{joined-more, length-joined}

-- ---- a loop that places rows

-- A loop has placed f 0, .., f (i - 1) of n rows of w numbers each into b, from number k on, and has l: its invariant
pub record Putting (k w : ℕ) (f : ℕ → List Float) (b : List Float) (n i : ℕ) (l : List Float) : Type 0 where
  pub within : i ≤ n
  pub fits : k + n * w ≤ length b
  pub each : (j : ℕ) → length (f j) ≡ w
  pub is : l ≡ placed k (joined (table i f)) b
  pub long : length l ≡ length b

pub putting_none : (k w : ℕ) (f : ℕ → List Float) (b : List Float) (n : ℕ) → k + n * w ≤ length b → ((j : ℕ) → length (f j) ≡ w) → Putting k w f b n 0 b
putting_none k w f b n h e = record { within = omega arith; fits = h; each = e; is = sym (placed-none k b); long = refl }

-- the next row has its place
pub putting_room : {k w : ℕ} {f : ℕ → List Float} {b : List Float} {n i : ℕ} {l : List Float} → Putting k w f b n i l → i < n → k + i * w + w ≤ length l
putting_room {k} {w} {f} {b} {n} {i} {l} p h = omega (arith, p.fits, p.long, mul-le-mul_right w h, suc-mul i w)

-- row i goes to number q
pub putting_more : {k w : ℕ} {f : ℕ → List Float} {b : List Float} {n i : ℕ} {l m : List Float} (q : ℕ) → Putting k w f b n i l → i < n → q ≡ k + i * w
    → m ≡ placed q (f i) l → Putting k w f b n (i + 1) m
putting_more {k} {w} {f} {b} {n} {i} {l} q p h e d =
    let front = joined (table i f) in
    let here : q ≡ k + length front = omega (arith, length-joined i w f (λ j g. p.each j)) in
    let room : q + length (f i) ≤ length l = omega (arith, putting_room p h, p.each i) in
    record {
      within = omega arith;
      fits = p.fits;
      each = p.each;
      is =
          d
          ∙ ap₂ (λ (j : ℕ) (t : List Float). placed j (f i) t) here p.is
          ∙ placed-after k front (f i) b (omega (arith, p.fits))
          ∙ ap (λ (t : List Float). placed k t b) (sym (joined-more i f))
          ∙ ap (λ (j : ℕ). placed k (joined (table j f)) b) (sym (add-one i));
      long = ap length d ∙ length-placed q (f i) l room ∙ p.long;
    }

pub putting_all : {k w : ℕ} {f : ℕ → List Float} {b : List Float} {n i : ℕ} {l : List Float} → Putting k w f b n i l → n ≤ i
    → l ≡ placed k (joined (table n f)) b
putting_all {k} {w} {f} {b} {n} {i} p h =
    let same : i ≡ n = omega arith in
    p.is ∙ ap (λ (j : ℕ). placed k (joined (table j f)) b) same

-- ---- a loop that copies

-- A loop has copied the first i numbers of a into b, from number k on, and has l: its invariant
pub record Copying (k : ℕ) (a b : List Float) (i : ℕ) (l : List Float) : Type 0 where
  pub within : i ≤ length a
  pub fits : k + length a ≤ length b
  pub is : l ≡ paste b k a i
  pub long : length l ≡ length b

pub copying_none : (k : ℕ) (a b : List Float) → k + length a ≤ length b → Copying k a b 0 b
copying_none k a b h = record { within = omega arith; fits = h; is = paste-zero b k a; long = refl }

pub copying_more : {k : ℕ} {a b l : List Float} {i : ℕ} → Copying k a b i l → i < length a → Copying k a b (i + 1) (set l (k + i) (at a i))
copying_more {k} {a} {b} {l} {i} e h = record {
  within = omega arith;
  fits = e.fits;
  is =
      ap (λ (t : List Float). set t (k + i) (at a i)) e.is
      ∙ paste-suc b k a i nan (omega (arith, e.fits)) h
      ∙ ap (paste b k a) (sym (add-one i));
  long = length-set l (k + i) (at a i) ∙ e.long;
}

pub copying_all : {k : ℕ} {a b l : List Float} {i : ℕ} → Copying k a b i l → length a ≤ i → l ≡ placed k a b
unfolding placed
copying_all {k} {a} {b} {l} {i} e h =
    let same : i ≡ length a = omega arith in
    e.is ∙ ap (paste b k a) same ∙ ap (λ (t : List Float). take k b ++ t ++ drop (k + length a) b) (take-length a)

-- ---- numbers written out

-- the first one to four numbers of v, set in b one after another
module _ (b v : List Float) (k : ℕ) where
  pub write_one : k + 0 < length b → set b k (at v 0) ≡ placed k (cut 1 v) b
  unfolding cut
  write_one h = set-placed k (at v 0) b (omega arith)

  pub write_two : k + 1 < length b → set (set b k (at v 0)) (k + 1) (at v 1) ≡ placed k (cut 2 v) b
  unfolding cut
  write_two h = placed-next k (cut 1 v) (at v 1) b h (write_one (omega arith))

  pub write_three : k + 2 < length b → set (set (set b k (at v 0)) (k + 1) (at v 1)) (k + 2) (at v 2) ≡ placed k (cut 3 v) b
  unfolding cut
  write_three h = placed-next k (cut 2 v) (at v 2) b h (write_two (omega arith))

  pub write_four : k + 3 < length b → set (set (set (set b k (at v 0)) (k + 1) (at v 1)) (k + 2) (at v 2)) (k + 3) (at v 3) ≡ placed k (cut 4 v) b
  unfolding cut
  write_four h = placed-next k (cut 3 v) (at v 3) b h (write_three (omega arith))

pub ruleset writing_out = (write_one, write_two, write_three, write_four)
