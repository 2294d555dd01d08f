-- A row of every covariance mixed where it stands, and a loop over the rows. Assumes nothing.
use mathlib.Core.Path.{◌≡◌, refl, sym, ap, ap₂, ◌∙◌}
use mathlib.Core.List.{List, [], ◌∷◌, ◌++◌}
use Prim.Native.Nat.{ℕ, suc, ◌+◌, ◌*◌, ◌≤◌, ◌<◌}
use native.Mathlib.Nat.{le_trans, mul-le-mul_right, suc-mul}
use native.Mathlib.Numerals.{add-one}
use native.Mathlib.Omega.{arith}
use lib.ListN.{length, replicate}
use lib.Ieee.{Float, nan}
use Rattle.scalar.specs.Number.{◌⊕◌, +0}
use Rattle.answer.specs.Table.{table, pad_to}
use Rattle.answer.proofs.Tables.{get_or-table, table_ext, length-table}
use Rattle.algebra.specs.Matrix.{Matrix, at, cell, sum_from, sum_of}
use Rattle.algebra.specs.Array.{cut}
use Rattle.algebra.proofs.Matrices.{sum_ext}
use Rattle.layout.specs.Layout.{vector_at, joined}
use Rattle.layout.proofs.Rows.{joined-more, length-joined}
use Rattle.imm_steps.specs.Bank.{spread_term}
use Rattle.c_bank.specs.Bank.{series, mixed_row_in}
use Rattle.c_bank.proofs.Spaced.{reaches, spaced-cell}
use Rattle.c_bank.proofs.Series.{series-same, series-after, series-past, length-series, series-none}

pub length-mixed : (N K step : ℕ) (x m w : Matrix) (b : List Float) (q r j : ℕ) → length (mixed_row_in N K step x m w b q r j) ≡ N
length-mixed N K step x m w b q r j = length-table N _

-- one row, of the rows p of all models
pub row_is : (N K step : ℕ) (x m w : Matrix) (b : List Float) (q r j : ℕ) {p : Matrix} {v : List Float} → N ≤ 4
    → p ≡ pad_to 4 (replicate 4 +0) (table K (λ i. vector_at 4 b (q + i * step)))
    → v ≡ table 4 (λ c. sum_of K (λ i. spread_term (cell p i c) (cell x i r) (cell m j r) (cell x i c) (cell m j c) (cell w i j)))
    → cut N v ≡ mixed_row_in N K step x m w b q r j
unfolding cut
row_is N K step x m w b q r j {p} small e d =
    ap (cut N) d
    ∙ table_ext N (λ c. at (table 4 F) c) (λ c. sum_of K (λ i. spread_term (at b (q + i * step + c)) (cell x i r) (cell m j r) (cell x i c) (cell m j c) (cell w i j)))
    (λ c h. get_or-table 4 F c nan (le_trans h small)
    ∙ sum_ext K _ _ (λ i g. ap (λ (y : Float). spread_term y (cell x i r) (cell m j r) (cell x i c) (cell m j c) (cell w i j)) (spaced-cell b q step K e i c g (le_trans h small))))
  where
    F : ℕ → Float
    F c = sum_of K (λ i. spread_term (cell p i c) (cell x i r) (cell m j r) (cell x i c) (cell m j c) (cell w i j))

-- and of the rows u and v of two
pub pair_is : (N step : ℕ) (x m w : Matrix) (b : List Float) (q r j : ℕ) {u v p : List Float} → N ≤ 4 → u ≡ vector_at 4 b q → v ≡ vector_at 4 b (q + step)
    → p ≡ table 4 (λ c. +0 ⊕ spread_term (at u c) (cell x 0 r) (cell m j r) (cell x 0 c) (cell m j c) (cell w 0 j)
    ⊕ spread_term (at v c) (cell x 1 r) (cell m j r) (cell x 1 c) (cell m j c) (cell w 1 j))
    → cut N p ≡ mixed_row_in N 2 step x m w b q r j
unfolding sum_from
pair_is N step x m w b q r j {u} {v} small e f d =
    let first : q ≡ q + 0 * step = omega arith in
    let second : q + step ≡ q + 1 * step = omega arith in
    let none = replicate 4 +0 in
    row_is N 2 step x m w b q r j small (λ t. (e ∙ ap (vector_at 4 b) first) t ∷ (f ∙ ap (vector_at 4 b) second) t ∷ none ∷ none ∷ []) d

-- ---- a loop over the rows of covariances that stand from number p on: r are mixed, and l is what it has
module _ (N K L p : ℕ) (x m w : Matrix) (b : List Float) where
  abbrev row_of : ℕ → ℕ → List Float
  row_of j r = mixed_row_in N K L x m w b (p + r * N) r j

  pub record Rowing (r : ℕ) (l : List Float) : Type 0 where
    pub within : r ≤ N
    pub apart : N * N ≤ L
    pub fits : p + K * L + (N * N + 4) ≤ length b + L
    pub is : l ≡ series K p L (λ j. joined (table r (row_of j))) b
    pub long : length l ≡ length b

  length_front : (r j : ℕ) → length (joined (table r (row_of j))) ≡ r * N
  length_front r j = length-joined r N (row_of j) (λ i h. length-table N _)

  room : (r j : ℕ) → r ≤ N → j < K → p + K * L + (N * N + 4) ≤ length b + L → p + j * L + r * N ≤ length b
  room r j g h f = omega (arith, mul-le-mul_right N g, reaches p L K (N * N + 4) (length b) j h f)

  pub rowing_more : {r : ℕ} {l l₁ : List Float} → Rowing r l → r < N → l₁ ≡ series K (p + r * N) L (mixed_row_in N K L x m w l (p + r * N) r) l → Rowing (r + 1) l₁
  rowing_more {r} {l} {l₁} v h d =
      let same = series-same K (p + r * N) L (mixed_row_in N K L x m w l (p + r * N) r) (λ j. row_of j r) l (λ j g. row_kept j) in
      let after = series-after K p (p + r * N) L (r * N) (λ j. joined (table r (row_of j))) (λ j. row_of j r) b (λ j g. length_front r j) refl
      (λ j g. omega (arith, v.apart, long-row j, mul-le-mul_right N h, suc-mul r N))
      (λ j g. omega (arith, long-row j, room (suc r) j h g v.fits, suc-mul r N)) in
      let all = d ∙ same ∙ ap (series K (p + r * N) L (λ j. row_of j r)) v.is ∙ after
      ∙ series-same K p L (λ j. joined (table r (row_of j)) ++ row_of j r) (λ j. joined (table (suc r) (row_of j))) b (λ j g. sym (joined-more r (row_of j)))
      ∙ ap (λ (i : ℕ). series K p L (λ j. joined (table i (row_of j))) b) (sym (add-one r)) in
      record {
        within = omega arith;
        apart = v.apart;
        fits = v.fits;
        is = all;
        long = ap length all ∙ length-series p L (λ j. joined (table (r + 1) (row_of j))) b K (λ j g. omega (arith, length_front (r + 1) j, room (suc r) j h g v.fits, suc-mul r N));
      }
    where
      long-row : (j : ℕ) → length (row_of j r) ≡ N
      long-row j = length-table N _

      kept : (i c : ℕ) → c < N → at l (p + r * N + i * L + c) ≡ at b (p + r * N + i * L + c)
      kept i c g =
          let z : p + r * N + i * L + c ≡ p + (r * N + c) + i * L = omega arith in
          ap₂ (λ (k : List Float) (z : ℕ). at k z) v.is z
          ∙ series-past K p L (r * N + c) i (λ j. joined (table r (row_of j))) b (λ j f. omega (arith, length_front r j)) (omega (arith, v.apart, mul-le-mul_right N h, suc-mul r N))
          (λ j f. omega (arith, length_front r j, room r j v.within f v.fits))
          ∙ ap (at b) (sym z)

      row_kept : (j : ℕ) → mixed_row_in N K L x m w l (p + r * N) r j ≡ row_of j r
      row_kept j =
          table_ext N _ _ (λ c g. sum_ext K _ _ (λ i f. ap (λ (y : Float). spread_term y (cell x i r) (cell m j r) (cell x i c) (cell m j c) (cell w i j)) (kept i c g)))

  pub rowing_none : N * N ≤ L → p + K * L + (N * N + 4) ≤ length b + L → Rowing 0 b
  rowing_none a f = record { within = omega arith; apart = a; fits = f; is = sym (series-none K p L b); long = refl }

  -- what row r asks for
  pub rowing_room : {r : ℕ} {l : List Float} → Rowing r l → r < N → p + r * N + K * L + 4 ≤ length l + L
  rowing_room {r} v h = omega (arith, v.fits, v.long, mul-le-mul_right N h, suc-mul r N)
