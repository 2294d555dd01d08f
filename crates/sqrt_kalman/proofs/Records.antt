-- What the rows read from a record's numbers x and s hold, and an outcome in rows and in such numbers. Assumes nothing.
use mathlib.Core.Path.{◌≡◌, refl, sym, ap, ◌∙◌}
use mathlib.Core.List.{List}
use Prim.Native.Nat.{ℕ}
use lib.ListN.{length}
use lib.Ieee.{Float, nan}
use Rattle.answer.specs.Answer.{Answer}
use Rattle.answer.specs.Outcome.{Outcome, Left, unchanged, this, standing, handed}
use Rattle.answer.specs.Table.{table}
use Rattle.answer.proofs.Tables.{table-get_or}
use Rattle.algebra.specs.Matrix.{Vector, at}
use Rattle.algebra.specs.Array.{cut, used_flat, rows_of_flat, flat_of_rows}
use Rattle.sizes.specs.declared.Size.{Size}
use Rattle.sizes.specs.Size.{count}
use Rattle.filtering.specs.SquareRoot.{Factored, factored, predict, update}
use Rattle.steps.specs.Step.{Rows}
use Rattle.steps.specs.Flat.{motion_flat}
use Rattle.steps.proofs.Flats.{read}
use Rattle.sqrt_steps.specs.Step.{channel_rows, factored_rows, arrays_of}
use Rattle.sqrt_kalman.specs.Record.{channel_flat, factored_flat, flats_of}

-- sixteen numbers, row by row and laid flat again
pub flat_again : (f : List Float) → length f ≡ 16 → flat_of_rows (rows_of_flat f) ≡ f
unfolding flat_of_rows rows_of_flat used_flat
flat_again f l = ap (λ (k : ℕ). table k (λ n. at f n)) (sym l) ∙ table-get_or f nan

-- ---- what is read from a record's numbers
pub read-channel : (n m : Size) (h r : List Float) {H : Rows} → H ≡ rows_of_flat h → channel_rows n m H r ≡ channel_flat (count n) (count m) h r
read-channel n m h r e = λ k. record { n = count n; m = count m; h = read m n h e k; r = cut (count m) r }

pub read-factored : (n : Size) (x s : List Float) {S : Rows} → S ≡ rows_of_flat s → factored_rows n x S ≡ factored_flat (count n) x s
read-factored n x s e = λ k. factored (cut (count n) x) (read n n s e k)

-- ---- the two steps by their sizes
abbrev pub predict_by : (a b q u x s : List Float) → ℕ → ℕ → Outcome Factored (Unit {0})
predict_by a b q u x s n i = predict (motion_flat n i a b q) (cut i u) (factored_flat n x s)

abbrev pub update_by : (h r z x s : List Float) → ℕ → ℕ → Outcome Factored Vector
update_by h r z x s n m = update (channel_flat n m h r) (cut m z) (factored_flat n x s)

module _ {R T : Type 0} (tell : Answer R → T) where
  -- ---- an outcome in rows a is one in the numbers s that a is laid flat
  pub rows-flat : (x s : List Float) (a : Rows) (o : Outcome Factored R) {t : T} {x' s' : List Float} {a' : Rows} → flat_of_rows a ≡ s → (t, (x', a')) ≡ handed tell arrays_of (x, a) o
      → s' ≡ flat_of_rows a' → (t, (x', s')) ≡ handed tell flats_of (x, s) o
  rows-flat x s a o e q f = (λ k. ((q k).0, ((q k).1.0, (f ∙ λ k. flat_of_rows (q k).1.1) k))) ∙ go o.left
    where
      go : (l : Left Factored) → ◌≡◌ {A = T × (List Float × List Float)} (tell o.told, ((standing arrays_of (x, a) l).0, flat_of_rows (standing arrays_of (x, a) l).1)) (tell o.told, standing flats_of (x, s) l)
      go unchanged = λ k. (tell o.told, (x, e k))
      go (this g) = refl
