-- Numbers placed step by step in a slice, for one model after another: what is read beside them, and numbers placed right after them. Assumes nothing.
use mathlib.Core.Path.{◌≡◌, refl, sym, ap, ap₂, ◌∙◌}
use mathlib.Core.List.{List, [], ◌++◌}
use Prim.Native.Nat.{ℕ, zero, suc, ◌+◌, ◌-◌, ◌*◌, ◌≤◌, ◌<◌}
use native.Mathlib.Nat.{mul-le-mul_right, suc-mul}
use native.Mathlib.Omega.{arith}
use mathlib.Core.Bool.{Bool, true, false}
use mathlib.Core.Logic.{◌⊎◌, inl, inr}
use lib.Dec.{ltb}
use borrow.Author.Tests.{ltb-true, ltb-false}
use lib.ListN.{length, length-append}
use lib.Ieee.{Float, nan}
use Rattle.answer.specs.Table.{table}
use Rattle.answer.proofs.Tables.{table_ext, table-get_or}
use Rattle.algebra.specs.Matrix.{at}
use Rattle.mixing.specs.Mixing.{Bank, model}
use Rattle.layout.specs.Layout.{placed, joined, model_length}
use Rattle.layout.proofs.Places.{length-placed, placed-none, placed-after, at_placed, at_before, at_past}
use Rattle.c_bank.specs.Bank.{model_place, with_estimates, series}

split : (a b : ℕ) → (a < b) ⊎ (b ≤ a)
split a b = go (ltb a b) refl
  where
    go : (t : Bool) → ltb a b ≡ t → (a < b) ⊎ (b ≤ a)
    go true e = inl (ltb-true a b e)
    go false e = inr (ltb-false a b e)

-- ---- slices with the same numbers
same : (l m : List Float) → length l ≡ length m → ((z : ℕ) → z < length l → at l z ≡ at m z) → l ≡ m
same l m e f =
    sym (table-get_or l nan) ∙ table_ext (length l) (at l) (at m) f ∙ ap (λ (n : ℕ). table n (at m)) e ∙ table-get_or m nan

-- numbers that lie apart can be placed in either order
apart : (p q : ℕ) (l m b : List Float) → p + length l ≤ q → q + length m ≤ length b → placed p l (placed q m b) ≡ placed q m (placed p l b)
apart p q l m b h g = same (placed p l (placed q m b)) (placed q m (placed p l b)) (ll ∙ lq ∙ sym (rr ∙ rp)) each
  where
    lq : length (placed q m b) ≡ length b
    lq = length-placed q m b g

    rp : length (placed p l b) ≡ length b
    rp = length-placed p l b (omega arith)

    ll : length (placed p l (placed q m b)) ≡ length (placed q m b)
    ll = length-placed p l (placed q m b) (omega (arith, lq))

    rr : length (placed q m (placed p l b)) ≡ length (placed p l b)
    rr = length-placed q m (placed p l b) (omega (arith, rp))

    in_l : p + length l ≤ length (placed q m b)
    in_l = omega (arith, lq)

    in_m : q + length m ≤ length (placed p l b)
    in_m = omega (arith, rp)

    first : (z : ℕ) → z < p → at (placed p l (placed q m b)) z ≡ at (placed q m (placed p l b)) z
    first z a =
        at_before p l (placed q m b) in_l z a ∙ at_before q m b g z (omega arith)
        ∙ sym (at_before q m (placed p l b) in_m z (omega arith) ∙ at_before p l b (omega arith) z a)

    inside : (i : ℕ) → i < length l → at (placed p l (placed q m b)) (p + i) ≡ at (placed q m (placed p l b)) (p + i)
    inside i a = at_placed p l (placed q m b) in_l i a ∙ sym (at_before q m (placed p l b) in_m (p + i) (omega arith) ∙ at_placed p l b (omega arith) i a)

    between : (z : ℕ) → p + length l ≤ z → z < q → at (placed p l (placed q m b)) z ≡ at (placed q m (placed p l b)) z
    between z a c =
        at_past p l (placed q m b) in_l z a ∙ at_before q m b g z c
        ∙ sym (at_before q m (placed p l b) in_m z c ∙ at_past p l b (omega arith) z a)

    second : (i : ℕ) → i < length m → at (placed p l (placed q m b)) (q + i) ≡ at (placed q m (placed p l b)) (q + i)
    second i a = at_past p l (placed q m b) in_l (q + i) (omega arith) ∙ at_placed q m b g i a ∙ sym (at_placed q m (placed p l b) in_m i a)

    last : (z : ℕ) → q + length m ≤ z → at (placed p l (placed q m b)) z ≡ at (placed q m (placed p l b)) z
    last z a =
        at_past p l (placed q m b) in_l z (omega arith) ∙ at_past q m b g z a
        ∙ sym (at_past q m (placed p l b) in_m z a ∙ at_past p l b (omega arith) z (omega arith))

    each : (z : ℕ) → z < length (placed p l (placed q m b)) → at (placed p l (placed q m b)) z ≡ at (placed q m (placed p l b)) z
    each z _ = elim (split z p) [
      | inl a ↦ first z a
      | inr a ↦ elim (split z (p + length l)) [
        | inl c ↦ (let e : p + (z - p) ≡ z = omega arith in
            ap (at (placed p l (placed q m b))) (sym e) ∙ inside (z - p) (omega arith) ∙ ap (at (placed q m (placed p l b))) e)
        | inr c ↦ elim (split z q) [
          | inl d ↦ between z c d
          | inr d ↦ elim (split z (q + length m)) [
            | inl f ↦ (let e : q + (z - q) ≡ z = omega arith in
                ap (at (placed p l (placed q m b))) (sym e) ∙ second (z - q) (omega arith) ∙ ap (at (placed q m (placed p l b))) e)
            | inr f ↦ last z f
          ]
        ]
      ]
    ]

-- ---- a series
pub series-same : (k q step : ℕ) (g h : ℕ → List Float) (b : List Float) → ((i : ℕ) → i < k → g i ≡ h i) → series k q step g b ≡ series k q step h b
unfolding series
series-same zero q step g h b e = refl
series-same (suc k) q step g h b e = ap₂ (λ (l c : List Float). placed (q + k * step) l c) (e k (omega arith)) (series-same k q step g h b (λ i l. e i (omega arith)))

module _ (q step : ℕ) (g : ℕ → List Float) (b : List Float) where
  pub length-series : (k : ℕ) → ((i : ℕ) → i < k → q + i * step + length (g i) ≤ length b) → length (series k q step g b) ≡ length b
  unfolding series
  length-series zero f = refl
  length-series (suc k) f =
      let e = length-series k (λ i l. f i (omega arith)) in
      length-placed (q + k * step) (g k) (series k q step g b) (omega (arith, e, f k (omega arith))) ∙ e

  -- a number before the first, or past the numbers of one model and before those of the next
  pub series_at : (k z : ℕ) → ((i : ℕ) → i < k → q + i * step + length (g i) ≤ length b) → ((i : ℕ) → i < k → (z < q + i * step) ⊎ (q + i * step + length (g i) ≤ z))
      → at (series k q step g b) z ≡ at b z
  unfolding series
  series_at zero z f a = refl
  series_at (suc k) z f a =
      let e = length-series k (λ i l. f i (omega arith)) in
      let room : q + k * step + length (g k) ≤ length (series k q step g b) = omega (arith, e, f k (omega arith)) in
      let rest = series_at k z (λ i l. f i (omega arith)) (λ i l. a i (omega arith)) in
      elim (a k (omega arith)) [
        | inl c ↦ at_before (q + k * step) (g k) (series k q step g b) room z c ∙ rest
        | inr c ↦ at_past (q + k * step) (g k) (series k q step g b) room z c ∙ rest
      ]

-- what lies past a whole series can be placed before it
series-apart : (k q step p : ℕ) (g : ℕ → List Float) (l b : List Float) → ((i : ℕ) → i < k → q + i * step + length (g i) ≤ p) → p + length l ≤ length b
    → series k q step g (placed p l b) ≡ placed p l (series k q step g b)
unfolding series
series-apart zero q step p g l b f h = refl
series-apart (suc k) q step p g l b f h =
    ap (placed (q + k * step) (g k)) (series-apart k q step p g l b (λ i c. f i (omega arith)) h)
    ∙ apart (q + k * step) p (g k) l (series k q step g b) (f k (omega arith))
    (omega (arith, length-series q step g b k (λ i c. let e = f i (omega arith) in omega arith)))

-- numbers right after those of each model, w after them
pub series-after : (k q r step w : ℕ) (g h : ℕ → List Float) (b : List Float) → ((i : ℕ) → i < k → length (g i) ≡ w) → r ≡ q + w
    → ((i : ℕ) → i < k → w + length (h i) ≤ step) → ((i : ℕ) → i < k → q + i * step + (w + length (h i)) ≤ length b)
    → series k r step h (series k q step g b) ≡ series k q step (λ i. g i ++ h i) b
unfolding series
series-after zero q r step w g h b e d f s = refl
series-after (suc k) q r step w g h b e d f s =
    let within : (i : ℕ) → i < k → q + i * step + length (g i) ≤ length b = λ i c. omega (arith, e i (omega arith), s i (omega arith)) in
    let before : (i : ℕ) → i < k → r + i * step + length (h i) ≤ q + k * step = λ i c. omega (arith, d, f i (omega arith), mul-le-mul_right step c, suc-mul i step) in
    let room : q + k * step + length (g k) ≤ length (series k q step g b) = omega (arith, length-series q step g b k within, s k (omega arith), e k (omega arith)) in
    let fewer = series-after k q r step w g h b (λ i c. e i (omega arith)) d (λ i c. f i (omega arith)) (λ i c. s i (omega arith)) in
    let rest = series k q step (λ i. g i ++ h i) b in
    let place : r + k * step ≡ q + k * step + length (g k) = omega (arith, d, e k (omega arith)) in
    let all : length rest ≡ length b = length-series q step (λ i. g i ++ h i) b k (λ i c. omega (arith, e i (omega arith), s i (omega arith), length-append (g i) (h i))) in
    ap (placed (r + k * step) (h k)) (series-apart k r step (q + k * step) h (g k) (series k q step g b) before room ∙ ap (placed (q + k * step) (g k)) fewer)
    ∙ ap (λ (z : ℕ). placed z (h k) (placed (q + k * step) (g k) rest)) place
    ∙ placed-after (q + k * step) (g k) (h k) rest (omega (arith, all, s k (omega arith)))

-- number u of model i, past what is placed of each
pub series-past : (k q step u i : ℕ) (g : ℕ → List Float) (b : List Float) → ((j : ℕ) → j < k → length (g j) ≤ u) → u < step
    → ((j : ℕ) → j < k → q + j * step + length (g j) ≤ length b) → at (series k q step g b) (q + u + i * step) ≡ at b (q + u + i * step)
series-past k q step u i g b e h f =
    series_at q step g b k (q + u + i * step) f
    (λ j c. elim (split i j) [
      | inl a ↦ inl (omega (arith, mul-le-mul_right step a, suc-mul i step))
      | inr a ↦ inr (omega (arith, e j c, mul-le-mul_right step a))
    ])

-- the estimates of a bank are such a series
pub with-series : (n k : ℕ) (b : List Float) (B : Bank) → with_estimates n k b B ≡ series k (n * n) (model_length n) (λ i. (model B i).state ++ joined (model B i).covariance) b
unfolding with_estimates series
with-series n zero b B = refl
with-series n (suc k) b B =
    let place : model_place n k 1 ≡ n * n + k * model_length n = omega arith in
    ap₂ (λ (z : ℕ) (l : List Float). placed z ((model B k).state ++ joined (model B k).covariance) l) place (with-series n k b B)

-- nothing for each model
pub series-none : (k q step : ℕ) (b : List Float) → series k q step (λ i. []) b ≡ b
unfolding series
series-none zero q step b = refl
series-none (suc k) q step b = placed-none (q + k * step) (series k q step (λ i. []) b) ∙ series-none k q step b
