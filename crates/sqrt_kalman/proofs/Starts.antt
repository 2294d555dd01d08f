-- A record or its numbers set from an estimate, by what Cholesky answers: w is its result, for c states. Assumes nothing.
use mathlib.Core.Path.{◌≡◌, refl, sym, ap, ◌∙◌}
use mathlib.Core.Bool.{Bool, true}
use mathlib.Core.List.{List}
use Prim.Native.Nat.{ℕ}
use lib.Ieee.{Float}
use Rattle.std.specs.Prelude.{Ok, Err}
use Rattle.answer.specs.declared.Refusal.{Refusal}
use Rattle.answer.specs.Answer.{Answer, mapped, where_sized, if_sized}
use Rattle.answer.specs.Outcome.{into, handed}
use Rattle.answer.proofs.Answers.{same_answer, same-refusal}
use Rattle.algebra.specs.Matrix.{Vector, Matrix}
use Rattle.algebra.specs.Array.{cut, used, pad_row, pad, flat_of_rows}
use Rattle.algebra.specs.Cholesky.{cholesky}
use Rattle.algebra.proofs.Matrices.{Shape}
use Rattle.algebra.proofs.Arrays.{used-pad}
use Rattle.algebra.proofs.Factors.{shape-cholesky}
use Rattle.matrix.specs.Result.{as_matrix}
use Rattle.filtering.specs.Filter.{Motion, Sensor}
use Rattle.filtering.specs.SquareRoot.{factored, of_estimate}
use Rattle.steps.specs.Step.{Rows}
use Rattle.steps.specs.Flat.{estimate_from}
use Rattle.sqrt_kalman.specs.declared.SqrtKalman.{SqrtKalman}
use Rattle.sqrt_kalman.specs.Record.{flats_of, record_of, factored_from}

-- Cholesky's answer, for the number of states that c is
answered_at : (p0 : Rows) {c n : ℕ} {w : Answer Rows} → c ≡ n → w ≡ as_matrix (cholesky c (used c c p0)) → as_matrix (cholesky n (used n n p0)) ≡ w
answered_at p0 e q = (λ k. as_matrix (cholesky (sym e k) (used (sym e k) (sym e k) p0))) ∙ sym q

-- ---- the numbers x and s set by `reset`: t is the test of the sizes, x0 and p0 what is given
module _ (x s x0 : List Float) (p0 : Rows) (n : ℕ) {t : Bool} {c : ℕ} {w : Answer Rows} (h : t ≡ true) (e : c ≡ n) (q : w ≡ as_matrix (cholesky c (used c c p0))) where
  abbrev of : Answer Matrix → Answer (Unit {0}) × (List Float × List Float)
  of a = handed (λ t. t) flats_of (x, s) (into (mapped (factored (cut n x0)) a))

  abbrev whole : Bool → Answer (Unit {0}) × (List Float × List Float)
  whole b = handed (λ t. t) flats_of (x, s) (into (if_sized b (of_estimate n (estimate_from n x0 p0))))

  pub reset_done : {S : Rows} {x' s' : List Float} → w ≡ Ok S → x' ≡ pad_row (cut c x0) → s' ≡ flat_of_rows S → (Ok tt, (x', s')) ≡ whole t
  unfolding of_estimate
  reset_done {S} {x'} {s'} d ex es = go (cholesky n (used n n p0)) (answered_at p0 e q ∙ d) ∙ λ k. whole (sym h k)
    where
      go : (a : Answer Matrix) → as_matrix a ≡ Ok S → (Ok tt, (x', s')) ≡ of a
      go (Err j) p = cc
      go (Ok L) p = let g : pad L ≡ S = same_answer p in λ k. (Ok tt, ((ex ∙ λ k. pad_row (cut (e k) x0)) k, (es ∙ ap flat_of_rows (sym g)) k))

  pub reset_refused : {j : Refusal} → w ≡ Err j → (Err j, (x, s)) ≡ whole t
  unfolding of_estimate
  reset_refused {j} d = go (cholesky n (used n n p0)) (answered_at p0 e q ∙ d) ∙ λ k. whole (sym h k)
    where
      go : (a : Answer Matrix) → as_matrix a ≡ Err j → (Err j, (x, s)) ≡ of a
      go (Err i) p = let g : i ≡ j = same-refusal p in λ k. (Err (sym g k), (x, s))
      go (Ok L) p = cc

-- ---- a record made by `new`, of the model M, Y
module _ (M : Motion) (Y : Sensor Vector) (x0 : List Float) (p0 : Rows) {t : Bool} {c : ℕ} {w : Answer Rows} (h : t ≡ true) (e : c ≡ M.n) (q : w ≡ as_matrix (cholesky c (used c c p0))) where
  abbrev n : ℕ
  n = M.n

  abbrev by : Answer Matrix → Answer SqrtKalman
  by a = mapped (record_of M Y) (mapped (factored (cut n x0)) a)

  abbrev all : Bool → Answer SqrtKalman
  all b = if_sized b (mapped (record_of M Y) (of_estimate n (estimate_from n x0 p0)))

  pub new-done : {s0 : Rows} {r : Answer SqrtKalman} → w ≡ Ok s0 → r ≡ where_sized t (record_of M Y (factored_from n x0 s0)) → r ≡ all t
  unfolding of_estimate
  new-done {s0} {r} d er = go (cholesky n (used n n p0)) (λ L. shape-cholesky n (used n n p0) L) (answered_at p0 e q ∙ d) ∙ λ k. all (sym h k)
    where
      go : (a : Answer Matrix) → ((L : Matrix) → a ≡ Ok L → Shape n n L) → as_matrix a ≡ Ok s0 → r ≡ by a
      go (Err j) f p = cc
      go (Ok L) f p =
          let g : pad L ≡ s0 = same_answer p in
          er
          ∙ (λ k. where_sized (h k) (record_of M Y (factored (cut n x0) (used n n (sym g k)))))
          ∙ λ k. Ok (record_of M Y (factored (cut n x0) (used-pad n n L (f L refl) k)))

  pub new-refused : {j : Refusal} → w ≡ Err j → Err j ≡ all t
  unfolding of_estimate
  new-refused {j} d = go (cholesky n (used n n p0)) (answered_at p0 e q ∙ d) ∙ λ k. all (sym h k)
    where
      go : (a : Answer Matrix) → as_matrix a ≡ Err j → Err j ≡ by a
      go (Err i) p = ap Err (sym (same-refusal p))
      go (Ok L) p = cc
