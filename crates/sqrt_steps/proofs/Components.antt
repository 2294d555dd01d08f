-- One component of a measurement: what it leaves, its ways out, and its numbers as the code makes them. Assumes nothing.
use mathlib.Core.Path.{◌≡◌, refl, sym, ap, ap₂, ◌∙◌}
use mathlib.Core.Bool.{cond}
use mathlib.Core.List.{List, [], ◌∷◌, ◌++◌}
use Prim.Native.Nat.{ℕ, ◌+◌}
use native.Mathlib.Nat.{le_trans}
use native.Mathlib.Omega.{arith}
use lib.Dec.{leb}
use lib.ListN.{length, length-append}
use lib.Ieee.{Float, nan}
use Rattle.root.specs.Root.{root}
use Rattle.scalar.specs.Number.{◌⊕◌, ◌⊖◌, ◌⊗◌, ◌⊘◌, +0}
use Rattle.scalar.proofs.Product.{times-comm}
use Rattle.std.specs.Prelude.{Ok, Err}
use Rattle.answer.specs.declared.Refusal.{Refusal}
use Rattle.answer.specs.Answer.{Answer, mapped}
use Rattle.answer.specs.Outcome.{Outcome, unchanged, this, final, handed, ◌else_leave◌then◌}
use Rattle.answer.specs.Table.{table}
use Rattle.answer.proofs.Answers.{differ, same_answer}
use Rattle.answer.proofs.Tables.{get_or-table, table_ext}
use Rattle.algebra.specs.Matrix.{Vector, Matrix, at, cell, sum_of, dot, matvec, transpose, vec_add, vec_scale}
use Rattle.algebra.specs.Array.{cut, pad_row, pad}
use Rattle.algebra.proofs.Matrices.{Shape, sum_ext, cell-mat}
use Rattle.algebra.proofs.Arrays.{at_cut, cell-used, cut-pad_row}
use Rattle.algebra.proofs.Vectors.{dot-cut, length-vec_add, length-matvec, each-cut}
use Rattle.sizes.specs.declared.Size.{Size}
use Rattle.sizes.specs.Size.{count, front, part}
use Rattle.rows.specs.Row.{row_times}
use Rattle.sizes.proofs.Sizes.{bounds}
use Rattle.rows.proofs.Kernels.{dot-sized}
use Rattle.filtering.specs.SquareRoot.{Factored, factored, variance, vec_over, rotated, component}
use Rattle.steps.specs.Step.{Rows}
use Rattle.matrix.specs.Result.{as_one}
use Rattle.sqrt_steps.specs.Step.{ended, factored_rows, arrays_of}
use Rattle.sqrt_steps.proofs.Downdates.{Shaped, none, some, shaped-rotated, part-standing}

-- ---- the definition by its numbers
module _ (n : ℕ) (h : Vector) (r z : Float) (f : Factored) where
  abbrev residual : Float
  residual = z ⊖ dot n h f.state

  abbrev projected : Vector
  projected = matvec n n (transpose n n f.factor) h

  abbrev spread : Float
  spread = dot n projected projected ⊕ r ⊗ r

  abbrev direction : Vector
  direction = matvec n n f.factor projected

  abbrev corrected_state : Float → Vector
  corrected_state s = vec_add n f.state (vec_scale n (vec_over n direction s) residual)

  abbrev downdated : Float → Outcome Matrix Vector
  downdated s = rotated n n f.factor (vec_over n direction (root s))

  -- what the test of the variance leads to, with the innovations y before it
  abbrev taken : Vector → Answer Float → Outcome Factored Vector
  taken y a = a else_leave unchanged then λ s. record { told = mapped (λ v. y ++ residual ∷ []) (downdated s).told; left = this (factored (corrected_state s) (final f.factor (downdated s).left)) }

-- ---- the ways out: nothing changes; or a state and a factor of n states are left, beside a refusal or one innovation
pub record Sized (n : ℕ) (f : Factored) : Type 0 where
  pub state : length f.state ≡ n
  pub factor : Shape n n f.factor

pub data Way (n : ℕ) : Outcome Factored Vector → Type 0 where
  stopped : (k : Refusal) → Way n (record { told = Err k; left = unchanged })
  failed : (k : Refusal) (f : Factored) → Sized n f → Way n (record { told = Err k; left = this f })
  went : (e : Float) (f : Factored) → Sized n f → Way n (record { told = Ok (e ∷ []); left = this f })

module _ (n : ℕ) (h : Vector) (r z : Float) (f : Factored) where
  pub way : Shape n n f.factor → Way n (component n h r z f [])
  unfolding component
  way F = go (variance (spread n h r z f))
    where
      sized : (s : Float) → Sized n (factored (corrected_state n h r z f s) (final f.factor (downdated n h r z f s).left))
      sized s = record { state = length-vec_add n _ _; factor = shape (shaped-rotated n n f.factor (vec_over n (direction n h r z f) (root s))) }
        where
          shape : {a : _} → Shaped n a → Shape n n (final f.factor a)
          shape none = F
          shape (some L g) = g

      told : (t : Answer Vector) (g : Factored) → Sized n g → Way n (record { told = mapped (λ v. residual n h r z f ∷ []) t; left = this g })
      told (Err k) g s = failed k g s
      told (Ok v) g s = went _ g s

      go : (a : Answer Float) → Way n (taken n h r z f [] a)
      go (Err k) = stopped k
      go (Ok s) = told (downdated n h r z f s).told _ (sized s)

  -- one innovation more than before
  pub length-component : (y : Vector) {v : Vector} → (component n h r z f y).told ≡ Ok v → length v ≡ length y + 1
  unfolding component
  length-component y {v} q = go (variance (spread n h r z f)) q
    where
      told : (t : Answer Vector) → mapped (λ u. y ++ residual n h r z f ∷ []) t ≡ Ok v → length v ≡ length y + 1
      told (Err k) q = absurd (differ q)
      told (Ok u) q = ap length (sym (same_answer q)) ∙ length-append y (residual n h r z f ∷ [])

      go : (a : Answer Float) → (taken n h r z f y a).told ≡ Ok v → length v ≡ length y + 1
      go (Err k) q = absurd (differ q)
      go (Ok s) q = told (downdated n h r z f s).told q

  -- with the innovations y before it
  pub component-after : (y : Vector) → component n h r z f y ≡ record { told = mapped (λ w. y ++ w) (component n h r z f []).told; left = (component n h r z f []).left }
  unfolding component
  component-after y = go (variance (spread n h r z f))
    where
      told : (t : Answer Vector) → mapped (λ v. y ++ residual n h r z f ∷ []) t ≡ mapped (λ w. y ++ w) (mapped (λ v. residual n h r z f ∷ []) t)
      told (Err k) = refl
      told (Ok v) = refl

      go : (a : Answer Float) → taken n h r z f y a ≡ record { told = mapped (λ w. y ++ w) (taken n h r z f [] a).told; left = (taken n h r z f [] a).left }
      go (Err k) = refl
      go (Ok s) = λ i. record { told = told (downdated n h r z f s).told i; left = this (factored (corrected_state n h r z f s) (final f.factor (downdated n h r z f s).left)) }

-- ---- the numbers as the code makes them

-- the used part of four numbers that each are g of v's
each_of : (g : Float → Float) (n : Size) (v : List Float) {u : List Float} → u ≡ table 4 (λ i. g (at v i)) → front n u ≡ table (count n) (λ i. g (at (front n v) i))
unfolding cut
each_of g n v e =
    ap (front n) e
    ∙ table_ext (count n) (λ j. at (table 4 (λ i. g (at v i))) j) (λ i. g (at v i)) (λ j h. get_or-table 4 (λ i. g (at v i)) j nan (le_trans h (bounds n).most))
    ∙ sym (each-cut g (count n) v)

module _ (n : Size) (h : List Float) (r z : Float) (x : List Float) (l : Rows) where
  abbrev N : ℕ
  N = count n

  abbrev H : Vector
  H = front n h

  abbrev F : Factored
  F = factored_rows n x l

  pub innovation_is : {k : ℕ} {d : Float} → k ≡ N → d ≡ cond (leb k 4) (dot k h x) +0 → z ⊖ d ≡ residual N H r z F
  innovation_is {k} ek e = ap (λ (d : Float). z ⊖ d) (dot-sized k e (omega (arith, bounds n)) ∙ ap (λ (j : ℕ). dot j h x) ek ∙ sym (dot-cut N h x))

  module _ {t : List Float} (et : t ≡ row_times N h l) where
    projected_is : front n t ≡ projected N H r z F
    unfolding cut row_times matvec transpose
    projected_is =
        ap (front n) et
        ∙ table_ext N _ (λ i. sum_of N (λ j. cell (transpose N N (part n n l)) i j ⊗ at H j))
        (λ i g. get_or-table 4 (λ j. sum_of N (λ t. at h t ⊗ cell l t j)) i nan (le_trans g (bounds n).most)
        ∙ sum_ext N _ _ (λ j f. times-comm (at h j) (cell l j i) ∙ ap₂ (λ (a b : Float). a ⊗ b) (sym (cell-used N N l j i f g) ∙ sym (cell-mat N N (λ i j. cell (part n n l) j i) i j g f)) (sym (at_cut N h j f))))

    spread_is : {k : ℕ} {d : Float} → k ≡ N → d ≡ cond (leb k 4) (dot k t t) +0 → d ⊕ r ⊗ r ≡ spread N H r z F
    spread_is {k} ek e =
        ap (λ (d : Float). d ⊕ r ⊗ r)
        (dot-sized k e (omega (arith, bounds n)) ∙ ap (λ (j : ℕ). dot j t t) ek ∙ sym (dot-cut N t t) ∙ ap (λ (v : Vector). dot N v v) projected_is)

    -- what the test of the variance says
    module _ {k : ℕ} {d : Float} {w : Answer Float} (ek : k ≡ N) (ed : d ≡ cond (leb k 4) (dot k t t) +0) (ew : w ≡ variance (d ⊕ r ⊗ r)) where
      tested : {a : Answer Float} → w ≡ a → variance (spread N H r z F) ≡ a
      tested q = sym (ew ∙ ap variance (spread_is ek ed)) ∙ q

      pub when_refused : {j : Refusal} → w ≡ Err j → (Err j, (x, l)) ≡ handed as_one arrays_of (x, l) (component N H r z F [])
      unfolding component
      when_refused q = sym (ap (λ (a : Answer Float). handed as_one arrays_of (x, l) (taken N H r z F [] a)) (tested q))

      module _ {s y : Float} {g : List Float} (q : w ≡ Ok s) (ey : y ≡ residual N H r z F) (eg : g ≡ pad_row (matvec N N (part n n l) (front n t))) where
        abbrev G : Vector
        G = direction N H r z F

        over_is : (a : Float) {u : List Float} → u ≡ vec_over 4 g a → front n u ≡ vec_over N G a
        unfolding vec_over
        over_is a e =
            each_of (λ x. x ⊘ a) n g e
            ∙ ap (λ (v : Vector). table N (λ i. at v i ⊘ a))
            (ap (front n) (eg ∙ ap (λ (v : Vector). pad_row (matvec N N (part n n l) v)) projected_is) ∙ cut-pad_row N G (length-matvec N N (part n n l) (projected N H r z F)))

        -- what the corrected state and the downdate say
        module _ {o u v x' : List Float} {ρ : Float} {st : Answer (Unit {0})} {l' l'' : Rows}
            (eo : o ≡ vec_over 4 g s) (eu : u ≡ vec_scale 4 o y) (ex : x' ≡ pad_row (vec_add N (front n x) (front n u)))
            (eρ : ρ ≡ root s) (ev : v ≡ vec_over 4 g ρ) (ed' : (st, l') ≡ handed ended pad l (rotated N N (part n n l) (front n v))) (el : l'' ≡ pad (part n n l')) where
          state_is : x' ≡ pad_row (corrected_state N H r z F s)
          unfolding vec_scale
          state_is =
              ex
              ∙ ap (λ (a : Vector). pad_row (vec_add N (front n x) a))
              (each_of (λ a. a ⊗ y) n o eu ∙ (λ i. vec_scale N (over_is s eo i) (ey i)))

          abbrev D : Outcome Matrix Vector
          D = downdated N H r z F s

          downdate_is : (st, l') ≡ handed ended pad l D
          downdate_is = ed' ∙ ap (λ (a : Vector). handed ended pad l (rotated N N (part n n l) a)) (over_is ρ ev ∙ ap (vec_over N G) eρ)

          factor_is : l'' ≡ pad (final (part n n l) D.left)
          factor_is =
              el ∙ ap (λ (a : Rows). pad (part n n a)) (λ i. (downdate_is i).1)
              ∙ ap pad (part-standing n l (shaped-rotated N N (part n n l) (vec_over N G (root s))))

          telling : (a : Answer Vector) → mapped {A = Unit {0}} (λ u. y) (ended a) ≡ as_one (mapped (λ v. residual N H r z F ∷ []) a)
          telling (Err j) = refl
          telling (Ok v) = ap Ok ey

          pub when_downdated : {b : Answer Float} → b ≡ mapped (λ u. y) st → (b, (x', l'')) ≡ handed as_one arrays_of (x, l) (component N H r z F [])
          unfolding component
          when_downdated e =
              (λ i. ((e ∙ ap (mapped (λ u. y)) (λ i. (downdate_is i).0) ∙ telling D.told) i, (state_is i, factor_is i)))
              ∙ sym (ap (λ (a : Answer Float). handed as_one arrays_of (x, l) (taken N H r z F [] a)) (tested q))
