-- A loop that places numbers for one model after another. Assumes nothing.
use mathlib.Core.Path.{◌≡◌, refl, sym, ap, ◌∙◌}
use mathlib.Core.List.{List}
use Prim.Native.Nat.{ℕ, ◌+◌, ◌*◌, ◌≤◌, ◌<◌}
use native.Mathlib.Numerals.{add-one}
use native.Mathlib.Omega.{arith}
use lib.ListN.{length}
use lib.Ieee.{Float}
use Rattle.sizes.specs.declared.Size.{Size}
use Rattle.sizes.specs.Size.{count}
use Rattle.sizes.proofs.Sizes.{bounds}
use Rattle.layout.specs.Layout.{placed}
use Rattle.layout.proofs.Places.{length-placed}
use Rattle.c_bank.specs.Bank.{series}
use Rattle.c_bank.proofs.Spaced.{reaches}

-- ---- a loop that places g 0, .., g (i - 1) of k and has l: its invariant
pub record Serial (q step : ℕ) (g : ℕ → List Float) (b : List Float) (k i : ℕ) (l : List Float) : Type 0 where
  pub within : i ≤ k
  pub few : k ≤ 4
  pub fits : q + k * step + 4 ≤ length b + step
  pub each : (j : ℕ) → length (g j) ≤ 4
  pub is : l ≡ series i q step g b
  pub long : length l ≡ length b

pub serial_none : (q step : ℕ) (g : ℕ → List Float) (b : List Float) (s : Size) {k : ℕ} → k ≡ count s → q + count s * step + 4 ≤ length b + step → ((j : ℕ) → length (g j) ≤ 4)
    → Serial q step g b k 0 b
unfolding series
serial_none q step g b s {k} e r f =
    let all : k * step ≡ count s * step = ap (λ (k : ℕ). k * step) e in
    record { within = omega arith; few = omega (arith, e, bounds s); fits = omega arith; each = f; is = refl; long = refl }

pub serial_room : {q step : ℕ} {g : ℕ → List Float} {b : List Float} {k i : ℕ} {l : List Float} → Serial q step g b k i l → i < k → q + i * step + 4 ≤ length l
serial_room {q} {step} {g} {b} {k} {i} v h = omega (arith, v.long, reaches q step k 4 (length b) i h v.fits)

pub serial_more : {q step : ℕ} {g : ℕ → List Float} {b : List Float} {k i : ℕ} {l l₁ u : List Float} → Serial q step g b k i l → i < k → u ≡ g i → l₁ ≡ placed (q + i * step) u l → Serial q step g b k (i + 1) l₁
unfolding series
serial_more {q} {step} {g} {b} {k} {i} {l} {l₁} v h e d =
    let put = d ∙ ap (λ (u : List Float). placed (q + i * step) u l) e in
    record {
      within = omega arith;
      few = v.few;
      fits = v.fits;
      each = v.each;
      is = put ∙ ap (placed (q + i * step) (g i)) v.is ∙ ap (λ (j : ℕ). series j q step g b) (sym (add-one i));
      long = ap length put ∙ length-placed (q + i * step) (g i) l (omega (arith, serial_room v h, v.each i)) ∙ v.long;
    }

pub serial_all : {q step : ℕ} {g : ℕ → List Float} {b : List Float} {k i c : ℕ} {l : List Float} → Serial q step g b k i l → k ≤ i → k ≡ c → l ≡ series c q step g b
serial_all {q} {step} {g} {b} {k} {i} v h e = let all : i ≡ k = omega (arith, v.within) in v.is ∙ ap (λ (j : ℕ). series j q step g b) (all ∙ e)

-- ---- and for two models, without a loop
pub both-placed : (q step : ℕ) (g : ℕ → List Float) (b : List Float) {u v b₁ b₂ : List Float} → u ≡ g 0 → v ≡ g 1 → b₁ ≡ placed q u b → b₂ ≡ placed (q + step) v b₁ → b₂ ≡ series 2 q step g b
unfolding series
both-placed q step g b e f d p =
    let first : q ≡ q + 0 * step = omega arith in
    let second : q + step ≡ q + 1 * step = omega arith in
    let one = d ∙ λ t. placed (first t) (e t) b in
    p ∙ λ t. placed (second t) (f t) (one t)
