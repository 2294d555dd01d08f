-- What a filter's record holds flat, and the arrays of rows that are read from it or laid flat into it. Assumes nothing.
use mathlib.Core.Path.{◌≡◌, ap, ◌∙◌}
use mathlib.Core.List.{List}
use Prim.Native.Nat.{ℕ}
use lib.Ieee.{Float}
use Rattle.algebra.specs.Array.{used, cut, pad_row, used_flat, rows_of_flat}
use Rattle.algebra.proofs.Arrays.{used-rows_of_flat}
use Rattle.sizes.specs.declared.Size.{Size}
use Rattle.sizes.specs.Size.{count, part}
use Rattle.sizes.proofs.Sizes.{bounds}
use Rattle.steps.specs.Step.{Rows, motion_rows, sensor_rows}
use Rattle.steps.specs.Flat.{flat, motion_flat, sensor_flat}

-- ---- rows that were read from a record's numbers
module _ (r c : Size) where
  pub read : (f : List Float) {a : Rows} → a ≡ rows_of_flat f → part r c a ≡ used_flat (count r) (count c) f
  read f e = ap (part r c) e ∙ used-rows_of_flat (count r) (count c) f (bounds r).most (bounds c).most

pub read-motion : (n i : Size) (a b q : List Float) {A B Q : Rows} → A ≡ rows_of_flat a → B ≡ rows_of_flat b → Q ≡ rows_of_flat q
    → motion_rows n i A B Q ≡ motion_flat (count n) (count i) a b q
read-motion n i a b q ea eb ed = λ k. record { n = count n; i = count i; a = read n n a ea k; b = read n i b eb k; q = read n n q ed k }

pub read-sensor : (n m : Size) (h r : List Float) {H R : Rows} → H ≡ rows_of_flat h → R ≡ rows_of_flat r → sensor_rows n m H R ≡ sensor_flat (count n) (count m) h r
read-sensor n m h r eh er = λ k. record { n = count n; m = count m; h = read m n h eh k; r = read m m r er k }

-- a used part that is laid flat, and the used numbers of an array: by numbers that are the sizes
pub flat_of : {r c j l : ℕ} (a : List (List Float)) {f : List Float} → j ≡ r → l ≡ c → f ≡ flat (used j l a) → f ≡ flat (used r c a)
flat_of a er ec e = e ∙ λ k. flat (used (er k) (ec k) a)

pub leading_of : {n j : ℕ} (x : List Float) {v : List Float} → j ≡ n → v ≡ pad_row (cut j x) → v ≡ pad_row (cut n x)
leading_of x en e = e ∙ λ k. pad_row (cut (en k) x)
