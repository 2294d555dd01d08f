-- What a reading or a writing hands over: for the functions' proofs its two ways out, and for a caller what it has where there is room. Assumes nothing.
use mathlib.Core.Path.{◌≡◌, ap, ap₂, ◌∙◌}
use mathlib.Core.List.{List, [], ◌++◌}
use Prim.Native.Nat.{ℕ, ◌+◌, ◌*◌, ◌≤◌, ◌<◌}
use native.Mathlib.Omega.{arith}
use lib.ListN.{length, length-append}
use lib.Ieee.{Float}
use Rattle.std.proofs.lemmas.Bool.Decides.{nat_tests}
use Rattle.answer.proofs.Choice.{cond-true}
use Rattle.answer.proofs.Tables.{length-table}
use Rattle.algebra.specs.Array.{cut, used, pad_row, pad}
use Rattle.algebra.proofs.Matrices.{shape-mat}
use Rattle.algebra.proofs.Arrays.{length_cut, shape-used, cut-pad_row, used-pad}
use Rattle.sizes.specs.declared.Size.{Size}
use Rattle.sizes.specs.Size.{count}
use Rattle.sizes.proofs.Sizes.{bounds}
use Rattle.layout.specs.Layout.{vector_at, matrix_at, joined, placed, vector_in, matrix_in, put_at, Parts, part_rows, part_columns, total, offset, part_at}
use Rattle.layout.proofs.Places.{room_of, room-true, part-placed, then-placed}
use Rattle.layout.proofs.Rows.{length-rows}
use Rattle.layout.proofs.Parts.{part-within}
use native.Mathlib.Nat.{mul-le-mul}

pub length-matrix : (r c : ℕ) (m : List (List Float)) → length (joined (used r c m)) ≡ r * c
length-matrix r c m = length-rows r c (used r c m) (shape-used r c m)

pub length-pair : (n : ℕ) (x : List Float) (p : List (List Float)) → length (cut n x ++ joined (used n n p)) ≡ n + n * n
length-pair n x p = length-append (cut n x) (joined (used n n p)) ∙ ap₂ (λ (i j : ℕ). i + j) (length_cut n x) (length-matrix n n p)

-- for a writing's two ways out
pub ruleset writing = (nat_tests, length_cut, length-matrix, length-pair, part-placed, then-placed)

-- ---- sizes as the code has them, numbers
pub few : (r c : Size) {l j : ℕ} → l ≡ count r → j ≡ count c → l * j ≤ 16
few r c {l} {j} d e =
    let rows : l ≤ 4 = omega (arith, d, bounds r) in
    let columns : j ≤ 4 = omega (arith, e, bounds c) in
    mul-le-mul rows columns

-- ---- what a caller has where there is room: the sizes of the call, as l and j, are its own, r and c or n
module _ (k : ℕ) (b : List Float) where
  pub vector-read : {j n : ℕ} {v : List Float} → j ≡ n → k + n ≤ length b → v ≡ pad_row (vector_in j b k) → v ≡ pad_row (vector_at n b k)
  vector-read {j} {n} d h p =
      p ∙ ap (λ (n : ℕ). pad_row (vector_in n b k)) d ∙ ap pad_row (cond-true (vector_at n b k) [] (room-true k n (length b) h))

  pub matrix-read : {l j r c : ℕ} {m : List (List Float)} → l ≡ r → j ≡ c → k + r * c ≤ length b → m ≡ pad (matrix_in l j b k) → m ≡ pad (matrix_at r c b k)
  matrix-read {l} {j} {r} {c} d e h p =
      p ∙ ap₂ (λ (r c : ℕ). pad (matrix_in r c b k)) d e ∙ ap pad (cond-true (matrix_at r c b k) [] (room-true k (r * c) (length b) h))

  -- the same, as the used part of the array that was read
  pub vector-used : {j n : ℕ} {v : List Float} → j ≡ n → k + n ≤ length b → v ≡ pad_row (vector_in j b k) → cut j v ≡ vector_at n b k
  vector-used {j} {n} {v} d h p =
      ap (λ (n : ℕ). cut n v) d ∙ ap (cut n) (vector-read d h p) ∙ cut-pad_row n (vector_at n b k) (length-table n _)

  pub matrix-used : {l j r c : ℕ} {m : List (List Float)} → l ≡ r → j ≡ c → k + r * c ≤ length b → m ≡ pad (matrix_in l j b k) → used l j m ≡ matrix_at r c b k
  matrix-used {l} {j} {r} {c} {m} d e h p =
      ap₂ (λ (r c : ℕ). used r c m) d e ∙ ap (used r c) (matrix-read d e h p) ∙ used-pad r c (matrix_at r c b k) (shape-mat r c _)

  pub slice-put : (l : List Float) {b₁ : List Float} → k + length l ≤ length b → b₁ ≡ put_at k l b → b₁ ≡ placed k l b
  slice-put l h p = p ∙ cond-true (placed k l b) b (room-true k (length l) (length b) h)

  pub vector-put : {j n : ℕ} (v : List Float) {b₁ : List Float} → j ≡ n → k + n ≤ length b → b₁ ≡ put_at k (cut j v) b → b₁ ≡ placed k (cut n v) b
  vector-put {j} {n} v d h p = slice-put (cut n v) (omega (arith, length_cut n v)) (p ∙ ap (λ (n : ℕ). put_at k (cut n v) b) d)

  pub matrix-put : {l j r c : ℕ} (m : List (List Float)) {b₁ : List Float} → l ≡ r → j ≡ c → k + r * c ≤ length b → b₁ ≡ put_at k (joined (used l j m)) b
      → b₁ ≡ placed k (joined (used r c m)) b
  matrix-put {l} {j} {r} {c} m d e h p =
      slice-put (joined (used r c m)) (omega (arith, length-matrix r c m)) (p ∙ ap₂ (λ (r c : ℕ). put_at k (joined (used r c m)) b) d e)

  pub pair_put : {j n : ℕ} (x : List Float) (p : List (List Float)) {b₁ : List Float} → j ≡ n → k + (n + n * n) ≤ length b
      → b₁ ≡ put_at k (cut j x ++ joined (used j j p)) b → b₁ ≡ placed k (cut n x ++ joined (used n n p)) b
  pair_put {j} {n} x p d h q =
      slice-put (cut n x ++ joined (used n n p)) (omega (arith, length-pair n x p)) (q ∙ ap (λ (n : ℕ). put_at k (cut n x ++ joined (used n n p)) b) d)

-- part k of a layout L that lies within b: q is where the code reads
pub part-read : (L : Parts) (b : List Float) (k : ℕ) {l j q : ℕ} {m : List (List Float)} → total L ≤ length b → k < length L
    → l ≡ part_rows L k → j ≡ part_columns L k → q ≡ offset L k → m ≡ pad (matrix_in l j b q) → used l j m ≡ part_at L b k
part-read L b k h g d e i p = matrix-used _ b d e (omega (arith, part-within L k g, i)) p ∙ ap (matrix_at (part_rows L k) (part_columns L k) b) i
