-- A step on the rows that were read from a slice is the step on the slice, and what is put back is what it leaves. Assumes nothing.
use mathlib.Core.Path.{◌≡◌, refl, sym, ap, ap₂, ◌∙◌}
use mathlib.Core.List.{List, ◌++◌, append_assoc}
use Prim.Native.Nat.{ℕ, ◌+◌, ◌*◌, ◌≤◌}
use native.Mathlib.Omega.{arith}
use lib.ListN.{length, take, drop, length-take, length-drop, take-append-drop}
use lib.Seq.{take-add, drop-drop}
use lib.Ieee.{Float}
use Rattle.std.specs.Prelude.{Ok, Err}
use Rattle.answer.specs.declared.Refusal.{Refusal}
use Rattle.answer.specs.Answer.{Answer, mapped}
use Rattle.answer.proofs.Answers.{differ, same_answer, same-refusal}
use Rattle.answer.specs.Outcome.{Outcome, Left, standing, handed}
use Rattle.algebra.specs.Matrix.{Vector}
use Rattle.algebra.specs.Array.{cut, used, pad_row, pad}
use Rattle.algebra.proofs.Matrices.{shape-mat}
use Rattle.algebra.proofs.Arrays.{cut-pad_row}
use Rattle.sizes.specs.Size.{count}
use Rattle.matrix.specs.Result.{as_vector}
use Rattle.filtering.specs.SquareRoot.{Factored, factored, predict, update}
use Rattle.layout.specs.Layout.{vector_at, matrix_at, vector_in, matrix_in, joined, placed, put_at}
use Rattle.layout.proofs.Places.{placed-whole}
use Rattle.layout.proofs.Rows.{vector-numbers, matrix-numbers}
use Rattle.layout.proofs.Calls.{vector-used, pair_put, vector-put}
use Rattle.steps.specs.Step.{Rows, motion_rows}
use Rattle.sqrt_steps.proofs.Updates.{told-length}
use Rattle.sqrt_steps.specs.Step.{channel_rows, factored_rows, arrays_of}
use Rattle.c_copies.specs.declared.Places.{Places}
use Rattle.c_copies.specs.Filter.{told_in}
use Rattle.c_copies.proofs.Filters.{Placed}
use Rattle.c_copies.proofs.Steps.{vector-given, motion-read, measuring-read, state-read, square-read, put_pair_back}
use Rattle.c_sqrt_kalman.specs.Root.{factored_at, with_factored, stepped_in}
use Rattle.c_sqrt_steps.specs.Step.{motion_at, channel_at, outcome_in}
use Rattle.c_sqrt_steps.proofs.Outcomes.{Kept, none, some, update-kept, predict-kept}

-- what stands in a slice is placed there again
pub placed-again : (k w : ℕ) (f : List Float) → k + w ≤ length f → placed k (take w (drop k f)) f ≡ f
unfolding placed
placed-again k w f h =
    let long : length (take w (drop k f)) ≡ w = simp (length-take, length-drop) (omega arith) in
    ap (λ (j : ℕ). take k f ++ take w (drop k f) ++ drop (k + j) f) long
    ∙ ap (λ (l : List Float). take k f ++ take w (drop k f) ++ l) (sym (drop-drop w k f))
    ∙ append_assoc (take k f) (take w (drop k f)) (drop w (drop k f))
    ∙ ap (λ (l : List Float). take k f ++ l) (take-append-drop w (drop k f))
    ∙ take-append-drop k f

-- f is the slice, and P its places
module _ {n m i : ℕ} (f : List Float) {P : Places} (A : Placed (λ m. 1) n m i (length f) P) where
  -- what is read
  channel-read : {h : Rows} {r : List Float} → h ≡ pad (matrix_in (count P.m) (count P.n) f P.h) → r ≡ pad_row (vector_in (count P.m) f P.r)
      → channel_rows P.n P.m h r ≡ channel_at n m i f
  channel-read eh er =
      let deviations = vector-used P.r f A.measurements (omega arith) er ∙ ap (vector_at m f) A.r in
      λ t. record { n = A.states t; m = A.measurements t; h = measuring-read f A eh t; r = deviations t }

  module _ {x : List Float} {l : Rows} (ex : x ≡ pad_row (vector_in (count P.n) f P.x)) (el : l ≡ pad (matrix_in (count P.n) (count P.n) f P.p)) where
    factored-read : factored_rows P.n x l ≡ factored_at n m i f
    factored-read = λ t. factored (state-read f A ex t) (square-read f A el t)

    -- what is put back: as it was read, or a state and a factor in its place
    put_back : {a : Left Factored} {x' g : List Float} {l' : Rows} → Kept n a → (x', l') ≡ standing arrays_of (x, l) a
        → g ≡ put_at P.x (cut (count P.n) x' ++ joined (used (count P.n) (count P.n) l')) f → g ≡ standing (with_factored n m i f) f a
    put_back {x' = x'} {l' = l'} none e q =
        let k = P.x in
        let both : factored (cut n x) (used n n l) ≡ factored_at n m i f =
        (λ t. factored (cut (sym A.states t) x) (used (sym A.states t) (sym A.states t) l)) ∙ factored-read in
        let long : k + (n + n * n) ≤ length f = omega arith in
        let there : k + n ≡ P.p = omega arith in
        pair_put k f x' l' A.states long q
        ∙ (λ t. placed k (cut n (e t).0 ++ joined (used n n (e t).1)) f)
        ∙ (λ t. placed k ((both t).state ++ joined (both t).factor) f)
        ∙ (λ t. placed k (vector_at n f (sym A.x t) ++ joined (matrix_at n n f (sym (there ∙ A.p) t))) f)
        ∙ ap₂ (λ (v w : List Float). placed k (v ++ w) f) (vector-numbers n k f (omega arith)) (matrix-numbers n n (k + n) f (omega arith) ∙ ap (take (n * n)) (sym (drop-drop n k f)))
        ∙ ap (λ (v : List Float). placed k v f) (sym (take-add n (n * n) (drop k f)))
        ∙ placed-again k (n + n * n) f long
    put_back (some s h) e q = put_pair_back f A s.state s.factor h.state h.factor (λ t. (e t).0) (λ t. (e t).1) q

  pub predicts : (u : List Float) {a b q l l' : Rows} {v x x' g : List Float} {s : Answer (Unit {0})} → length u ≡ i
      → a ≡ pad (matrix_in (count P.n) (count P.n) f 0)
      → b ≡ pad (matrix_in (count P.n) (count P.i) f P.b)
      → q ≡ pad (matrix_in (count P.n) (count P.n) f P.q)
      → v ≡ pad_row (vector_in (count P.i) u 0)
      → x ≡ pad_row (vector_in (count P.n) f P.x)
      → l ≡ pad (matrix_in (count P.n) (count P.n) f P.p)
      → (s, (x', l')) ≡ handed (λ t. t) arrays_of (x, l) (predict (motion_rows P.n P.i a b q) (cut (count P.i) v) (factored_rows P.n x l))
      → g ≡ put_at P.x (cut (count P.n) x' ++ joined (used (count P.n) (count P.n) l')) f
      → (s, g) ≡ stepped_in n m i f (predict (motion_at n m i f) u (factored_at n m i f))
  predicts u {l = l} {x = x} lu ea eb eq ev ex el e r =
      let both = e ∙ (λ t. handed (λ t. t) arrays_of (x, l) (predict (motion-read f A ea eb eq t) (vector-given P.i u A.inputs lu ev t) (factored-read ex el t))) in
      let kept = predict-kept (motion_at n m i f) u (factored_at n m i f) (shape-mat n n _) in
      λ t. ((both t).0, put_back ex el kept (λ t. (both t).1) r t)

  -- ---- an update: y held the innovations' place
  module _ (z : List Float) (lz : length z ≡ m) {h l l' : Rows} {r w x x' g : List Float} {v : Answer (List Float)}
      (eh : h ≡ pad (matrix_in (count P.m) (count P.n) f P.h))
      (er : r ≡ pad_row (vector_in (count P.m) f P.r))
      (ew : w ≡ pad_row (vector_in (count P.m) z 0))
      (ex : x ≡ pad_row (vector_in (count P.n) f P.x))
      (el : l ≡ pad (matrix_in (count P.n) (count P.n) f P.p))
      (s : (v, (x', l')) ≡ handed as_vector arrays_of (x, l) (update (channel_rows P.n P.m h r) (cut (count P.m) w) (factored_rows P.n x l)))
      (eg : g ≡ put_at P.x (cut (count P.n) x' ++ joined (used (count P.n) (count P.n) l')) f) where
    abbrev outcome : Outcome Factored Vector
    outcome = update (channel_at n m i f) z (factored_at n m i f)

    same : (v, (x', l')) ≡ handed as_vector arrays_of (x, l) outcome
    same = s ∙ (λ t. handed as_vector arrays_of (x, l) (update (channel-read eh er t) (vector-given P.m z A.measurements lz ew t) (factored-read ex el t)))

    slice_is : g ≡ standing (with_factored n m i f) f outcome.left
    slice_is = put_back ex el (update-kept (channel_at n m i f) z (factored_at n m i f) (shape-mat n n _)) (λ t. (same t).1) eg

    -- what is told and left, where a is told
    abbrev of : List Float → Answer Vector → Answer (Unit {0}) × (List Float × List Float)
    of y a = (mapped (λ _. tt) a, (standing (with_factored n m i f) f outcome.left, told_in y a))

    pub updates : (y : List Float) {q y' : List Float} → length y ≡ m → v ≡ Ok q → y' ≡ put_at 0 (cut (count P.m) q) y → (Ok tt, (g, y')) ≡ outcome_in n m i f y outcome
    updates y {q} {y'} ly d ey = go outcome.told (λ c. told-length (channel_at n m i f) z (factored_at n m i f) c) (sym d ∙ λ t. (same t).0)
      where
        go : (a : Answer Vector) → ((c : Vector) → a ≡ Ok c → length c ≡ m) → Ok q ≡ as_vector a → (Ok tt, (g, y')) ≡ of y a
        go (Err j) w e = absurd (differ (sym e))
        go (Ok c) w e =
            let lc = w c refl in
            let there : y' ≡ c =
            vector-put 0 y q A.measurements (omega (arith, ly)) ey
            ∙ ap (λ (q : Vector). placed 0 q y) (ap (cut m) (same_answer e) ∙ cut-pad_row m c lc)
            ∙ placed-whole c y (lc ∙ sym ly) in
            λ t. (Ok tt, (slice_is t, there t))

    pub refuses : (y : List Float) {j : Refusal} → v ≡ Err j → (Err j, (g, y)) ≡ outcome_in n m i f y outcome
    refuses y {j} d = go outcome.told (sym d ∙ λ t. (same t).0)
      where
        go : (a : Answer Vector) → Err j ≡ as_vector a → (Err j, (g, y)) ≡ of y a
        go (Err q) e = let there : j ≡ q = same-refusal e in λ t. (Err (there t), (slice_is t, y))
        go (Ok c) e = absurd (differ e)
