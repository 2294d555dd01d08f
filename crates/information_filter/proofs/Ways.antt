-- Steps on rows are steps on a record's numbers, which stand flat; and the ways out of the methods. Assumes nothing.
use mathlib.Core.Path.{◌≡◌, refl, sym, ap, ◌∙◌}
use mathlib.Core.List.{List, []}
use Prim.Native.Nat.{ℕ}
use lib.ListN.{length}
use lib.Ieee.{Float}
use Rattle.std.specs.Prelude.{Ok, Err}
use Rattle.answer.specs.declared.Refusal.{Refusal}
use Rattle.answer.specs.Answer.{Answer, mapped}
use Rattle.answer.specs.Outcome.{Outcome, unchanged, into, handed, ◌else_leave◌then◌}
use Rattle.answer.proofs.Answers.{differ, same-refusal}
use Rattle.algebra.specs.Matrix.{Matrix}
use Rattle.algebra.specs.Array.{cut, rows_of_flat, flat_of_rows}
use Rattle.algebra.specs.Inverse.{inv}
use Rattle.algebra.proofs.Matrices.{Shape}
use Rattle.algebra.proofs.Arrays.{used-pad, cut-pad_row}
use Rattle.sizes.specs.declared.Size.{Size}
use Rattle.sizes.specs.Size.{count, front, part}
use Rattle.matrix.specs.Result.{as_matrix, as_vector}
use Rattle.filtering.specs.Filter.{Motion, Sensor, Estimate}
use Rattle.filtering.specs.Information.{Information, of_estimate, informed, predict, update}
use Rattle.steps.specs.Step.{Rows, motion_rows, sensor_rows}
use Rattle.steps.specs.Flat.{motion_flat, sensor_flat}
use Rattle.steps.proofs.Flats.{read, read-motion}
use Rattle.information_steps.specs.Step.{information_rows, arrays_of, update_by}
use Rattle.information_steps.proofs.Ways.{Plain, plain, made-sizes, update_is, inverted, rejected}
use Rattle.information_filter.specs.declared.InformationFilter.{InformationFilter}
use Rattle.information_filter.specs.Record.{information_flat, information_from, keeping, holding, informed_flat, record_of}

pub read-information : (n : Size) (w v : List Float) {W : Rows} → W ≡ rows_of_flat w → information_rows n W v ≡ information_flat (count n) w v
read-information n w v e = λ k. record { matrix = read n n w e k; vector = cut (count n) v }

-- ---- what is left in the record f, whose Ω is read as the rows W
module _ (f : InformationFilter) (W : Rows) where
  -- by a step whose refusal changes nothing
  pub went : {n : ℕ} {o : Outcome Information (Unit {0})} {w : Rows} {v p : List Float} → Plain n o → (Ok tt, (w, v)) ≡ handed (λ t. t) arrays_of (W, f.xi) o → p ≡ flat_of_rows w
      → (Ok tt, keeping f (p, v)) ≡ handed (λ t. t) (holding f) f o
  went (plain (Err k) l) e r = absurd (differ (λ t. (sym e t).0))
  went (plain (Ok o) l) e r = λ t. (Ok tt, keeping f ((r ∙ λ t. flat_of_rows (e t).1.0) t, (e t).1.1))

  pub stopped : {n : ℕ} {o : Outcome Information (Unit {0})} {k : Refusal} {w : Rows} {v : List Float} {s : Answer (Unit {0})} → Plain n o
      → (Err k, (w, v)) ≡ handed (λ t. t) arrays_of (W, f.xi) o → s ≡ Err k → (s, keeping f (f.omega, v)) ≡ handed (λ t. t) (holding f) f o
  stopped (plain (Err j) l) e q = λ t. ((q ∙ λ t. (e t).0) t, keeping f (f.omega, (e t).1.1))
  stopped (plain (Ok o) l) e q = absurd (differ (λ t. (e t).0))

  module _ (eW : W ≡ rows_of_flat f.omega) where
    -- the rows of a prediction, and of a sensor's addition, are those of the record's numbers
    pub read-predict : (n i : Size) (u : List Float) {A B Q : Rows} {y : Answer (Unit {0}) × (Rows × List Float)} → A ≡ rows_of_flat f.a → B ≡ rows_of_flat f.b → Q ≡ rows_of_flat f.q
        → y ≡ handed (λ t. t) arrays_of (W, f.xi) (predict (motion_rows n i A B Q) (front i u) (information_rows n W f.xi))
        → y ≡ handed (λ t. t) arrays_of (W, f.xi) (predict (motion_flat (count n) (count i) f.a f.b f.q) (cut (count i) u) (information_flat (count n) f.omega f.xi))
    read-predict n i u ea eb eq g =
        g ∙ λ k. handed (λ t. t) arrays_of (W, f.xi) (predict (read-motion n i f.a f.b f.q ea eb eq k) (front i u) (read-information n f.omega f.xi eW k))

    pub read-addition : (n m : Size) (h r z : List Float) {H R w : Rows} {v p : List Float} → H ≡ rows_of_flat h → R ≡ rows_of_flat r
        → (w, v) ≡ arrays_of (informed (count n) (count m) (part m n H) (part m m R) (front m z) (information_rows n W f.xi)) → p ≡ flat_of_rows w
        → keeping f (p, v) ≡ holding f (informed_flat (count n) (count m) h r z (information_flat (count n) f.omega f.xi))
    read-addition n m h r z eh er g d =
        let e = g ∙ λ k. arrays_of (informed (count n) (count m) (read m n h eh k) (read m m r er k) (front m z) (read-information n f.omega f.xi eW k)) in
        λ t. keeping f ((d ∙ λ t. flat_of_rows (e t).0) t, (e t).1)

-- ---- an update of the record f, by what the inversion w of the noise answers, whose rows are R
module _ (f : InformationFilter) (n m : Size) (z : List Float) {R : Rows} {w : Answer Rows} (er : R ≡ rows_of_flat f.r) (ew : w ≡ as_matrix (inv (count m) (part m m R))) where
  abbrev Y : Sensor Matrix
  Y = sensor_flat (count n) (count m) f.h f.r

  abbrev start : Information
  start = information_flat (count n) f.omega f.xi

  abbrev whole : Answer (List Float) × InformationFilter
  whole = handed as_vector (holding f) f (update Y (front m z) start)

  abbrev by : Answer Matrix → Answer (List Float) × InformationFilter
  by a = handed as_vector (holding f) f (a else_leave unchanged then update_by Y (front m z) start)

  by_noise : {a : Answer Matrix} → inv (count m) (part m m R) ≡ a → whole ≡ by a
  by_noise q = ap (handed as_vector (holding f) f) (update_is Y (front m z) start) ∙ ap by (ap (inv (count m)) (sym (read m m f.r er)) ∙ q)

  pub not_updated : {k : Refusal} {s : Answer (List Float)} → w ≡ Err k → s ≡ Err k → (s, f) ≡ whole
  not_updated d q = (λ t. (q t, f)) ∙ sym (by_noise (rejected m R ew d))

  pub updated : {V H W o : Rows} {s : Answer (List Float)} {v p : List Float} → w ≡ Ok V → H ≡ rows_of_flat f.h → W ≡ rows_of_flat f.omega
      → (s, (o, v)) ≡ handed as_vector arrays_of (W, f.xi) (update_by (sensor_rows n m H []) (front m z) (information_rows n W f.xi) (part m m V)) → p ≡ flat_of_rows o
      → (s, keeping f (p, v)) ≡ whole
  updated {V} {W = W} d eh eW g q =
      let e = g ∙ λ k. handed as_vector arrays_of (W, f.xi) (update_by (record { n = count n; m = count m; h = read m n f.h eh k; r = Y.r }) (front m z) (read-information n f.omega f.xi eW k) (part m m V)) in
      (λ t. ((e t).0, keeping f ((q ∙ λ t. flat_of_rows (e t).1.0) t, (e t).1.1))) ∙ sym (by_noise (inverted m R ew d))

-- what stands in arrays of rows, read back
from_back : (n : ℕ) (o : Information) {w : Rows} {v : List Float} → Shape n n o.matrix → length o.vector ≡ n → (w, v) ≡ arrays_of o → information_from n w v ≡ o
from_back n o s l e =
    (λ t. information_from n (e t).0 (e t).1)
    ∙ λ t. record { matrix = used-pad n n o.matrix s t; vector = cut-pad_row n o.vector l t }

-- ---- a filter of an estimate e, made in the rows w and the numbers v: by what is told
module _ (M : Motion) (Y : Sensor Matrix) (e : Estimate) (W : Rows) (V : List Float) where
  pub new-made : {w : Rows} {v : List Float} {x : Answer InformationFilter} → (Ok tt, (w, v)) ≡ handed (λ t. t) arrays_of (W, V) (into (of_estimate M.n e))
      → x ≡ Ok (record_of M Y (information_from M.n w v)) → x ≡ mapped (record_of M Y) (of_estimate M.n e)
  new-made {w} {v} {x} g p = go (of_estimate M.n e) refl g
    where
      go : (a : Answer Information) → of_estimate M.n e ≡ a → (Ok tt, (w, v)) ≡ handed (λ t. t) arrays_of (W, V) (into a) → x ≡ mapped (record_of M Y) a
      go (Err k) q g = absurd (differ (λ t. (sym g t).0))
      go (Ok o) q g = let h = made-sizes M.n e q in p ∙ λ c. Ok (record_of M Y (from_back M.n o h.0 h.1 (λ t. (g t).1) c))

  pub new-refused : {w : Rows} {v : List Float} {k : Refusal} {x : Answer InformationFilter} → (Err k, (w, v)) ≡ handed (λ t. t) arrays_of (W, V) (into (of_estimate M.n e))
      → x ≡ Err k → x ≡ mapped (record_of M Y) (of_estimate M.n e)
  new-refused {w} {v} {k} {x} g p = go (of_estimate M.n e) g
    where
      go : (a : Answer Information) → (Err k, (w, v)) ≡ handed (λ t. t) arrays_of (W, V) (into a) → x ≡ mapped (record_of M Y) a
      go (Err j) g = p ∙ ap Err (same-refusal (λ t. (g t).0))
      go (Ok o) g = absurd (differ (λ t. (g t).0))
