-- The downdate: what its columns leave, and the loop over them. Assumes nothing.
use mathlib.Core.Path.{◌≡◌, refl, sym, ap, ◌∙◌}
use mathlib.Core.List.{List}
use Prim.Native.Nat.{ℕ, zero, suc, ◌+◌, ◌≤◌, ◌<◌}
use native.Mathlib.Decide.{le_ind}
use native.Mathlib.Numerals.{add-one}
use native.Mathlib.Omega.{arith}
use lib.ListN.{length}
use lib.Ieee.{Float}
use Rattle.std.specs.Prelude.{Ok, Err}
use Rattle.answer.specs.declared.Refusal.{Refusal}
use Rattle.answer.specs.Answer.{Answer}
use Rattle.answer.specs.Outcome.{Outcome, Left, unchanged, this, final, done, later, onward, standing, handed}
use Rattle.answer.proofs.Answers.{differ, same-refusal}
use Rattle.answer.proofs.Tables.{length-table}
use Rattle.algebra.specs.Matrix.{Vector, Matrix, cell, at}
use Rattle.algebra.specs.Array.{pad_row, pad}
use Rattle.algebra.proofs.Matrices.{Shape, shape-mat}
use Rattle.algebra.proofs.Arrays.{used-pad, cut-pad_row}
use Rattle.sizes.specs.declared.Size.{Size}
use Rattle.sizes.specs.Size.{count, front, part}
use Rattle.scalar.specs.Number.{◌⊖◌, ◌⊗◌}
use Rattle.filtering.specs.SquareRoot.{turned_diagonal, rotate, rotated}
use Rattle.steps.specs.Step.{Rows}
use Rattle.sqrt_steps.specs.Step.{ended, rotated_rows}
use Rattle.sqrt_steps.proofs.Columns.{turned}

-- ---- one column: nothing changes, or n numbers are told and n rows of n are left
pub data Way (n : ℕ) : Outcome Matrix Vector → Type 0 where
  stopped : (k : Refusal) → Way n (record { told = Err k; left = unchanged })
  went : (w : Vector) (L : Matrix) → length w ≡ n → Shape n n L → Way n (done w L)

way-turned : (n k : ℕ) (L : Matrix) (v : Vector) (x y : Float) (a : Answer Float) → Way n (turned n k L v x y a)
way-turned n k L v x y (Err j) = stopped j
way-turned n k L v x y (Ok d) = went _ _ (length-table n _) (shape-mat n n _)

way : (n k : ℕ) (L : Matrix) (v : Vector) → Way n (rotate n k L v)
unfolding rotate
way n k L v = way-turned n k L v (cell L k k) (at v k) (turned_diagonal (cell L k k ⊗ cell L k k ⊖ at v k ⊗ at v k))

-- ---- what is left of a matrix: it, or n rows of n in its place
pub data Shaped (n : ℕ) : Left Matrix → Type 0 where
  none : Shaped n unchanged
  some : (L : Matrix) → Shape n n L → Shaped n (this L)

shaped-later : {n : ℕ} {a b : Left Matrix} → Shaped n a → Shaped n b → Shaped n (later a b)
shaped-later s none = s
shaped-later s (some L h) = some L h

shaped-way : {n : ℕ} {o : Outcome Matrix Vector} → Way n o → Shaped n o.left
shaped-way (stopped k) = none
shaped-way (went w L a h) = some L h

pub shaped-rotated : (n k : ℕ) (L : Matrix) (v : Vector) → Shaped n (rotated n k L v).left
unfolding rotated
shaped-rotated n zero L v = none
shaped-rotated n (suc k) L v = go (rotated n k L v).told (shaped-rotated n k L v)
  where
    go : (t : Answer Vector) {l : Left Matrix} → Shaped n l → Shaped n (onward L (record { told = t; left = l }) (rotate n k)).left
    go (Err j) s = s
    go (Ok w) s = shaped-later s (shaped-way (way n k _ w))

-- the used part of what stands in the rows l
pub part-standing : (n : Size) (l : Rows) {a : Left Matrix} → Shaped (count n) a → part n n (standing pad l a) ≡ final (part n n l) a
part-standing n l none = refl
part-standing n l (some L h) = used-pad (count n) (count n) L h

-- ---- what a column's call says of it
pub record Turned (n : ℕ) (o : Outcome Matrix Vector) (l : Rows) (w : List Float) : Type 0 where
  pub told : Vector
  pub left : Matrix
  pub is : o ≡ done told left
  pub factor : l ≡ pad left
  pub vector : w ≡ pad_row told
  pub size : length told ≡ n
  pub shape : Shape n n left

module _ {n : ℕ} (l : Rows) (w : List Float) where
  was_turned : {o : Outcome Matrix Vector} {r : Answer (Unit {0})} {l' : Rows} {w' : List Float} → Way n o → (r, (l', w')) ≡ rotated_rows l w o → r ≡ Ok tt → Turned n o l' w'
  was_turned (stopped k) e d = absurd (differ (sym (λ i. (e i).0) ∙ d))
  was_turned (went u L a h) e d = record { told = u; left = L; is = refl; factor = λ i. (e i).1.0; vector = λ i. (e i).1.1; size = a; shape = h }

  was_stopped : {o : Outcome Matrix Vector} {r : Answer (Unit {0})} {k : Refusal} {l' : Rows} {w' : List Float} → Way n o → (r, (l', w')) ≡ rotated_rows l w o → r ≡ Err k
      → (o ≡ record { told = Err k; left = unchanged }) × (l' ≡ l)
  was_stopped {k = k} (stopped j) e d =
      let s : j ≡ k = same-refusal (sym (λ i. (e i).0) ∙ d) in
      ((λ i. record { told = Err (s i); left = unchanged }), λ i. (e i).1.0)
  was_stopped (went u L a h) e d = absurd (differ (sym d ∙ λ i. (e i).0))

-- ---- the loop over the columns has turned the first k of the rows l and the vector v: its invariant
pub record Turning (n : Size) (l : Rows) (v : List Float) (k : ℕ) (l' : Rows) (w : List Float) : Type 0 where
  pub within : k ≤ count n
  pub told : Vector
  pub left : Left Matrix
  pub so_far : rotated (count n) k (part n n l) (front n v) ≡ record { told = Ok told; left = left }
  pub factor : l' ≡ standing pad l left
  pub used : part n n l' ≡ final (part n n l) left
  pub vector : front n w ≡ told

pub turning_none : (n : Size) (l : Rows) (v : List Float) → Turning n l v 0 l v
unfolding rotated
turning_none n l v = record { within = omega arith; told = front n v; left = unchanged; so_far = refl; factor = refl; used = refl; vector = refl }

module _ {n : Size} {l : Rows} {v : List Float} {k : ℕ} {l' : Rows} {w : List Float} (t : Turning n l v k l' w) (h : k < count n) where
  abbrev turn : Outcome Matrix Vector
  turn = rotate (count n) k (part n n l') (front n w)

  abbrev on : Outcome Matrix Vector → Outcome Matrix Vector
  on p = record { told = p.told; left = later t.left p.left }

  next : {p : Outcome Matrix Vector} → turn ≡ p → rotated (count n) (k + 1) (part n n l) (front n v) ≡ on p
  unfolding rotated
  next q =
      ap (λ (j : ℕ). rotated (count n) j (part n n l) (front n v)) (add-one k)
      ∙ ap (λ (o : Outcome Matrix Vector). onward (part n n l) o (rotate (count n) k)) t.so_far
      ∙ (λ i. on (rotate (count n) k (sym t.used i) (sym t.vector i)))
      ∙ ap on q

  module _ {r : Answer (Unit {0})} {l'' : Rows} {w'' : List Float} (e : (r, (l'', w'')) ≡ rotated_rows l' w turn) where
    pub turning_more : r ≡ Ok tt → Turning n l v (k + 1) l'' w''
    turning_more d =
        let u = was_turned l' w (way (count n) k _ _) e d in
        record {
          within = omega arith;
          told = u.told;
          left = this u.left;
          so_far = next u.is;
          factor = u.factor;
          used = ap (part n n) u.factor ∙ used-pad (count n) (count n) u.left u.shape;
          vector = ap (front n) u.vector ∙ cut-pad_row (count n) u.told u.size;
        }

    -- a refusal stands
    pub turning_refused : {j : Refusal} → r ≡ Err j → (Err j, l'') ≡ handed ended pad l (rotated (count n) (count n) (part n n l) (front n v))
    unfolding rotated
    turning_refused {j} d =
        let s = was_stopped l' w (way (count n) k _ _) e d in
        let all : rotated (count n) (count n) (part n n l) (front n v) ≡ record { told = Err j; left = t.left } =
        le_ind {n = k + 1} (λ m. rotated (count n) m (part n n l) (front n v) ≡ record { told = Err j; left = t.left }) (next s.0)
        (λ m g p. ap (λ (o : Outcome Matrix Vector). onward (part n n l) o (rotate (count n) m)) p)
        (count n) (omega arith) in
        (λ i. (Err j, (s.1 ∙ t.factor) i)) ∙ sym (ap (handed ended pad l) all)

pub turning_all : {n : Size} {l : Rows} {v : List Float} {k : ℕ} {l' : Rows} {w : List Float} → Turning n l v k l' w → count n ≤ k
    → (Ok tt, l') ≡ handed ended pad l (rotated (count n) (count n) (part n n l) (front n v))
turning_all {n} {l} {v} {k} t h =
    let same : count n ≡ k = omega arith in
    (λ i. (Ok tt, t.factor i)) ∙ sym (ap (handed ended pad l) (ap (λ (j : ℕ). rotated (count n) j (part n n l) (front n v)) same ∙ t.so_far))

-- the loop's turns, but for a refusal
pub ruleset turns = (turning_none, turning_more, turning_all)
