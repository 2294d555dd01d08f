-- The update: the loop over the components of a measurement, each from what the one before it left. Assumes nothing.
use mathlib.Core.Path.{◌≡◌, refl, sym, ap, ◌∙◌}
use mathlib.Core.List.{List, [], ◌∷◌, ◌++◌}
use Prim.Native.Nat.{ℕ, ◌+◌, ◌≤◌, ◌<◌, zero, suc}
use native.Mathlib.Decide.{le_ind}
use native.Mathlib.Numerals.{add-one}
use native.Mathlib.Omega.{arith}
use lib.ListN.{length, set, replicate, length-append}
use lib.Ieee.{Float}
use Rattle.scalar.specs.Number.{+0}
use Rattle.std.specs.Prelude.{Ok, Err}
use Rattle.answer.specs.declared.Refusal.{Refusal}
use Rattle.answer.specs.Answer.{Answer, mapped}
use Rattle.answer.specs.Outcome.{Outcome, Left, unchanged, this, final, later, onward, standing, handed}
use Rattle.answer.proofs.Answers.{differ, same_answer, same-refusal}
use Rattle.answer.proofs.Tables.{set-pad_to}
use Rattle.algebra.specs.Matrix.{Vector, at, row}
use Rattle.algebra.specs.Array.{cut, used, pad_row}
use Rattle.algebra.proofs.Arrays.{at_cut, row-used, cut-pad_row, used-pad, shape-used}
use Rattle.sizes.specs.declared.Size.{Size}
use Rattle.sizes.specs.Size.{count, front, part}
use Rattle.sizes.proofs.Sizes.{bounds}
use Rattle.matrix.specs.Result.{as_vector}
use Rattle.filtering.specs.Filter.{Sensor}
use Rattle.filtering.specs.SquareRoot.{Factored, factored, component, components, update}
use Rattle.steps.specs.Step.{Rows}
use Rattle.matrix.specs.Result.{as_one}
use Rattle.sqrt_steps.specs.Step.{factored_rows, channel_rows, arrays_of}
use Rattle.sqrt_steps.proofs.Components.{Way, stopped, failed, went, way, length-component, component-after}

-- ---- what the call of a component says of it

record Taken (n : Size) (o : Outcome Factored Vector) (b : Float) (x : List Float) (l : Rows) : Type 0 where
  left : Factored
  is : o ≡ record { told = Ok (b ∷ []); left = this left }
  arrays : (x, l) ≡ arrays_of left
  used : factored_rows n x l ≡ left

record Stopped (o : Outcome Factored Vector) (j : Refusal) (a b : List Float × Rows) : Type 0 where
  left : Left Factored
  is : o ≡ record { told = Err j; left = left }
  arrays : b ≡ standing arrays_of a left

module _ (a : List Float × Rows) where
  was_taken : {n : Size} {o : Outcome Factored Vector} {v : Answer Float} {b : Float} {x : List Float} {l : Rows} → Way (count n) o → (v, (x, l)) ≡ handed as_one arrays_of a o
      → v ≡ Ok b → Taken n o b x l
  was_taken (stopped k) e d = absurd (differ (sym (λ i. (e i).0) ∙ d))
  was_taken (failed k f s) e d = absurd (differ (sym (λ i. (e i).0) ∙ d))
  was_taken {n} {b = b} (went y f s) e d =
      let q : y ≡ b = same_answer (sym (λ i. (e i).0) ∙ d) in
      record {
        left = f;
        is = λ i. record { told = Ok (q i ∷ []); left = this f };
        arrays = λ i. (e i).1;
        used =
            (λ i. factored (front n (e i).1.0) (part n n (e i).1.1))
            ∙ λ i. factored (cut-pad_row (count n) f.state s.state i) (used-pad (count n) (count n) f.factor s.factor i);
      }

  was_stopped : {n : ℕ} {o : Outcome Factored Vector} {v : Answer Float} {j : Refusal} {w : List Float × Rows} → Way n o → (v, w) ≡ handed as_one arrays_of a o
      → v ≡ Err j → Stopped o j a w
  was_stopped {j = j} (stopped k) e d =
      let q : k ≡ j = same-refusal (sym (λ i. (e i).0) ∙ d) in
      record { left = unchanged; is = λ i. record { told = Err (q i); left = unchanged }; arrays = λ i. (e i).1 }
  was_stopped {j = j} (failed k f s) e d =
      let q : k ≡ j = same-refusal (sym (λ i. (e i).0) ∙ d) in
      record { left = this f; is = λ i. record { told = Err (q i); left = this f }; arrays = λ i. (e i).1 }
  was_stopped (went y f s) e d = absurd (differ (sym d ∙ λ i. (e i).0))

-- an update that is answered tells an innovation for each measurement
length-components : (Y : Sensor Vector) (z : Vector) (f : Factored) (k : ℕ) {v : Vector} → (components Y k z f).told ≡ Ok v → length v ≡ k
unfolding components
length-components Y z f zero q = ap length (sym (same_answer q))
length-components Y z f (suc k) {v} q = go (components Y k z f).told (components Y k z f).left (λ u. length-components Y z f k) q
  where
    go : (t : Answer Vector) (l : Left Factored) → ((u : Vector) → t ≡ Ok u → length u ≡ k)
        → (onward f (record { told = t; left = l }) (component Y.n (row Y.h k) (at Y.r k) (at z k))).told ≡ Ok v → length v ≡ suc k
    go (Err j) l h q = absurd (differ q)
    go (Ok u) l h q = length-component Y.n (row Y.h k) (at Y.r k) (at z k) _ u q ∙ ap (λ (j : ℕ). j + 1) (h u refl) ∙ add-one k

pub told-length : (Y : Sensor Vector) (z : Vector) (f : Factored) (y : Vector) → (update Y z f).told ≡ Ok y → length y ≡ Y.m
unfolding update
told-length Y z f y q = length-components Y z f Y.m q

-- what two steps leave in the arrays
standing-later : (a : List Float × Rows) (l m : Left Factored) → standing arrays_of (standing arrays_of a l) m ≡ standing arrays_of a (later l m)
standing-later a l unchanged = refl
standing-later a l (this f) = refl

-- ---- the loop has taken in the first i components: its invariant. h, r, z, x and l are the arrays to begin with
pub record Taking (n m : Size) (h : Rows) (r z x : List Float) (l : Rows) (i : ℕ) (x' : List Float) (l' : Rows) (y : List Float) : Type 0 where
  pub within : i ≤ count m
  pub told : Vector
  pub left : Left Factored
  pub so_far : components (channel_rows n m h r) i (front m z) (factored_rows n x l) ≡ record { told = Ok told; left = left }
  pub arrays : (x', l') ≡ standing arrays_of (x, l) left
  pub used : factored_rows n x' l' ≡ final (factored_rows n x l) left
  pub innovations : y ≡ pad_row told
  pub size : length told ≡ i

pub taking_none : (n m : Size) (h : Rows) (r z x : List Float) (l : Rows) → Taking n m h r z x l 0 x l (replicate 4 +0)
unfolding components
taking_none n m h r z x l = record { within = omega arith; told = []; left = unchanged; so_far = refl; arrays = refl; used = refl; innovations = refl; size = refl }

module _ {n m : Size} {h : Rows} {r z x : List Float} {l : Rows} {i : ℕ} {x' : List Float} {l' : Rows} {y : List Float} (t : Taking n m h r z x l i x' l' y) (g : i < count m) where
  abbrev N : ℕ
  N = count n

  abbrev M : ℕ
  M = count m

  abbrev F : Factored
  F = factored_rows n x l

  abbrev first : ℕ → Outcome Factored Vector
  first k = components (channel_rows n m h r) k (front m z) F

  abbrev step : Outcome Factored Vector
  step = component N (front n (row h i)) (at r i) (at z i) (factored_rows n x' l') []

  abbrev from : Outcome Factored Vector → Outcome Factored Vector
  from p = record { told = p.told; left = later t.left p.left }

  abbrev on : Outcome Factored Vector → Outcome Factored Vector
  on p = from (record { told = mapped (λ w. t.told ++ w) p.told; left = p.left })

  ways : Way N step
  ways = way N (front n (row h i)) (at r i) (at z i) (factored_rows n x' l') (shape-used N N l')

  next : {p : Outcome Factored Vector} → step ≡ p → first (i + 1) ≡ on p
  unfolding components
  next q =
      ap first (add-one i)
      ∙ ap (λ (o : Outcome Factored Vector). onward F o (component N (row (used M N h) i) (at (cut M r) i) (at (cut M z) i))) t.so_far
      ∙ (λ k. from (component N (row-used M N h i g k) (at_cut M r i g k) (at_cut M z i g k) (sym t.used k) t.told))
      ∙ ap from (component-after N (front n (row h i)) (at r i) (at z i) (factored_rows n x' l') t.told)
      ∙ ap on q

  module _ {v : Answer Float} {x'' : List Float} {l'' : Rows} (e : (v, (x'', l'')) ≡ handed as_one arrays_of (x', l') step) where
    pub taking_more : {b : Float} → v ≡ Ok b → Taking n m h r z x l (i + 1) x'' l'' (set y i b)
    taking_more {b} d =
        let u = was_taken (x', l') {n = n} ways e d in
        let four : length t.told < 4 = omega (arith, t.size, bounds m) in
        record {
          within = omega arith;
          told = t.told ++ b ∷ [];
          left = this u.left;
          so_far = next u.is;
          arrays = u.arrays;
          used = u.used;
          innovations =
              (λ k. set (t.innovations k) (sym t.size k) b)
              ∙ set-pad_to 4 +0 t.told b four;
          size = length-append t.told (b ∷ []) ∙ ap (λ (k : ℕ). k + 1) t.size;
        }

    -- a refusal stands
    pub taking_refused : {j : Refusal} → v ≡ Err j
        → (Err j, (x'', l'')) ≡ handed as_vector arrays_of (x, l) (update (channel_rows n m h r) (front m z) F)
    unfolding components update
    taking_refused {j} d =
        let s = was_stopped (x', l') ways e d in
        let end : Outcome Factored Vector = record { told = Err j; left = later t.left s.left } in
        let all : first M ≡ end =
        le_ind {n = i + 1} (λ k. first k ≡ end) (next s.is)
        (λ k f p. ap (λ (o : Outcome Factored Vector). onward F o (component N (row (used M N h) k) (at (cut M r) k) (at (cut M z) k))) p)
        M (omega arith) in
        (λ k. (Err j, (s.arrays ∙ (λ q. standing arrays_of (t.arrays q) s.left) ∙ standing-later (x, l) t.left s.left) k))
        ∙ sym (ap (handed as_vector arrays_of (x, l)) all)

pub taking_all : {n m : Size} {h : Rows} {r z x : List Float} {l : Rows} {i : ℕ} {x' : List Float} {l' : Rows} {y : List Float}
    → Taking n m h r z x l i x' l' y → count m ≤ i
    → (Ok y, (x', l')) ≡ handed as_vector arrays_of (x, l) (update (channel_rows n m h r) (front m z) (factored_rows n x l))
unfolding update
taking_all {n} {m} {h} {r} {z} {x} {l} {i} t g =
    let same : count m ≡ i = omega (arith, t.within) in
    (λ k. (Ok (t.innovations k), t.arrays k))
    ∙ sym (ap (handed as_vector arrays_of (x, l)) (ap (λ (k : ℕ). components (channel_rows n m h r) k (front m z) (factored_rows n x l)) same ∙ t.so_far))
