-- What is promised of layouts: how long they are, that their parts do not overlap, and what reading and writing a part do. Definitions only.
use Rattle.std.specs.Prelude.{◌≡◌, List, ℕ, ◌+◌, ◌*◌, ◌≤◌, ◌<◌, length, Float}
use Rattle.algebra.specs.Matrix.{mat}
use Rattle.layout.specs.Layout.{joined, placed, Parts, part_rows, part_columns, part_size, total, offset, part_at, pair_parts, slot_parts, filter_parts, pair_length, stride, model_parts, model_length, bank_parts}

pub record Layouts : Type 0 where
  pub pair : (n : ℕ) → total (pair_parts n) ≡ pair_length n
  pub slot : (n : ℕ) → total (slot_parts n) ≡ stride n
  pub filter : (n m i : ℕ) → total (filter_parts n m i) ≡ n * n + n * i + m * n + n * n + m * m + pair_length n
  pub model : (n : ℕ) → total (model_parts n) ≡ model_length n
  pub bank : (n m k : ℕ) → total (bank_parts n m k) ≡ k * model_length n + k * k + m * n + m * m + k
  -- a slot's second pair begins after the first, and a filter ends with its pair
  pub second : (n : ℕ) → offset (slot_parts n) 2 ≡ pair_length n
  pub last : (n m i : ℕ) → offset (filter_parts n m i) 5 + pair_length n ≡ total (filter_parts n m i)
  -- a part ends before a later one begins, and within the whole
  pub apart : (L : Parts) (j k : ℕ) → j < k → k < length L → offset L j + part_size L j ≤ offset L k
  pub within : (L : Parts) (k : ℕ) → k < length L → offset L k + part_size L k ≤ total L
  -- a matrix placed in part k is what stands there, and every other part stands as it was
  pub read_back : (L : Parts) (b : List Float) (k : ℕ) (f : ℕ → ℕ → Float) → k < length L → total L ≤ length b
      → part_at L (placed (offset L k) (joined (mat (part_rows L k) (part_columns L k) f)) b) k ≡ mat (part_rows L k) (part_columns L k) f
  pub others : (L : Parts) (b : List Float) (j k : ℕ) (f : ℕ → ℕ → Float) → j < length L → k < length L → (j ≡ k → ⊥) → total L ≤ length b
      → part_at L (placed (offset L k) (joined (mat (part_rows L k) (part_columns L k) f)) b) j ≡ part_at L b j
