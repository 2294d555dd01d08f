-- Laws of the smoother's records: what a slot's record holds, and the ways out of its methods. Assumes nothing.
use mathlib.Core.Path.{◌≡◌, sym, ap, ap₂, ◌∙◌, subst}
use mathlib.Core.Bool.{Bool, true}
use mathlib.Core.List.{List, ◌++◌}
use Prim.Native.Nat.{ℕ, ◌+◌, ◌*◌, ◌≤◌, ◌<◌}
use native.Mathlib.Omega.{arith}
use lib.ListN.{length}
use lib.Ieee.{Float}
use borrow.Author.Tests.{eqb-true, lt-leb}
use Rattle.std.specs.Prelude.{Ok}
use Rattle.answer.specs.declared.Refusal.TheVariants.{BufferFull}
use Rattle.answer.specs.Answer.{Answer, mapped, where_sized, if_sized, refused_if}
use Rattle.answer.specs.Outcome.{into, standing}
use Rattle.answer.proofs.Choice.{and_left, and_right}
use Rattle.algebra.specs.Matrix.{Matrix}
use Rattle.algebra.specs.Array.{cut, used, pad_row, pad, rows_of_flat, flat_of_rows}
use Rattle.algebra.proofs.Arrays.{length_cut, shape-used, used-rows_of_flat}
use Rattle.sizes.specs.declared.Size.{Size}
use Rattle.sizes.specs.Size.{count, size_of, sized}
use Rattle.matrix.proofs.Results.{value_answered}
use Rattle.filtering.specs.Filter.{estimate}
use Rattle.layout.specs.Layout.{placed, pair_length, stride}
use Rattle.layout.proofs.Places.{then-placed}
use Rattle.layout.proofs.Rows.{ends-within}
use Rattle.duty.specs.Buffer.{pair_numbers, slot_numbers, buffered}
use Rattle.duty.proofs.Sizes.{Given, given, Buffered, buffered_of, buffer-small}
use Rattle.duty.proofs.Pairs.{length-pair}
use Rattle.rts_smoother.specs.declared.FilteredState.{FilteredState}
use Rattle.rts_smoother.specs.declared.RtsSmoother.{RtsSmoother}
use Rattle.rts_smoother.specs.Record.{slot_of, slot_of_rows, record_of, state_from, smoother, storable, store_in}

-- ---- what a test that was passed says: the buffer's sizes are right, and a slot has the smoother's
pub record Storable (m n T c size : ℕ) : Type 0 where
  pub buffer : Buffered m n T c
  pub same : n ≡ size

pub storable_of : (m n T c size : ℕ) → storable m n T c size ≡ true → Storable m n T c size
unfolding storable
storable_of m n T c size e = record { buffer = buffered_of m n T c (and_left _ _ e); same = eqb-true n size (and_right (buffered m n T c) _ e) }

-- ---- the two pairs of a record, one after the other: p and q are its covariances as rows
pub slot_placed : (s : FilteredState) (b : List Float) {k : ℕ} {b₁ b₂ : List Float} {p q : List (List Float)} → s.n ≤ 4 → k ≤ length b
    → p ≡ rows_of_flat s.p → q ≡ rows_of_flat s.p_pred
    → b₁ ≡ placed k (pair_numbers (estimate (cut s.n s.x) (used s.n s.n p))) b
    → b₂ ≡ placed (k + pair_length s.n) (pair_numbers (estimate (cut s.n s.x_pred) (used s.n s.n q))) b₁
    → b₂ ≡ placed k (slot_numbers (slot_of s)) b
unfolding slot_numbers
slot_placed s b {k} {p = p} h l u v d₁ d₂ =
    let n = s.n in
    let long = length-pair (record { state = length_cut n s.x; covariance = shape-used n n p }) in
    then-placed _ _ b l (ap (λ (i : ℕ). k + i) (sym long)) d₁ d₂
    ∙ ap₂ (λ (P Q : Matrix). placed k (pair_numbers (estimate (cut n s.x) P) ++ pair_numbers (estimate (cut n s.x_pred) Q)) b)
    (ap (used n n) u ∙ used-rows_of_flat n n s.p h h) (ap (used n n) v ∙ used-rows_of_flat n n s.p_pred h h)

-- ---- the slot of arrays of rows: m is the size as the code has it
pub state-done : {n m : ℕ} (x y : List Float) (p q : List (List Float)) {fx fp fy fq : List Float} → sized n ≡ true → m ≡ n
    → fx ≡ pad_row (cut m x) → fp ≡ flat_of_rows (pad (used m m p)) → fy ≡ pad_row (cut m y) → fq ≡ flat_of_rows (pad (used m m q))
    → Ok (record { n = n; x = fx; p = fp; x_pred = fy; p_pred = fq }) ≡ state_from n x p y q
state-done {n} {m} x y p q t e ex ep ey eq =
    let row : (v : List Float) → pad_row (cut m v) ≡ pad_row (cut n v) = λ v. ap (λ (m : ℕ). pad_row (cut m v)) e in
    let flat : (a : List (List Float)) → flat_of_rows (pad (used m m a)) ≡ flat_of_rows (pad (used n n a)) = λ a. ap (λ (m : ℕ). flat_of_rows (pad (used m m a))) e in
    value_answered (record_of n (slot_of_rows n x p y q)) t
    (λ i. record { n = n; x = (ex ∙ row x) i; p = (ep ∙ flat p) i; x_pred = (ey ∙ row y) i; p_pred = (eq ∙ flat q) i })

-- ---- a store
module _ (m : RtsSmoother) (b : List Float) (s : FilteredState) where
  abbrev fits : Bool
  fits = storable (length b) m.n m.room m.count s.n

  abbrev left : Answer (ℕ × List Float) → Answer RtsSmoother × List Float
  left a = (mapped (λ w. smoother m.n m.room w.0) a, standing (λ w. w.1) b (into a).left)

  abbrev after : ℕ × List Float
  after = (m.count + 1, placed (m.count * stride m.n) (slot_numbers (slot_of s)) b)

  -- where it is stored the slot lies within the buffer: r is the stride as the code has it
  pub record Fitting (r : ℕ) : Type 0 where
    pub is : r ≡ stride m.n
    pub ends : m.count * r + stride s.n ≤ length b
    pub small : m.count * r ≤ 2560

  -- z is the size that the test gave
  module _ (z : Size) {o : Answer Size} {r : ℕ} (p : o ≡ where_sized fits (size_of m.n)) (d : o ≡ Ok z) (q : m.count < m.room) (e : r ≡ stride (count z)) where
    sizes : Given fits m.n z
    sizes = given fits m.n (λ w. (storable_of (length b) m.n m.room m.count s.n w).buffer.sizes.size) p d

    right : Storable (length b) m.n m.room m.count s.n
    right = storable_of (length b) m.n m.room m.count s.n sizes.passed

    pub of_slot : count z ≡ s.n
    of_slot = sizes.size ∙ right.same

    pub fitting : Fitting r
    fitting =
        let f = right.buffer.sizes in
        let w = ends-within {k = m.count} {n = m.room} (stride m.n) q in
        let z = buffer-small f.bounds.most f.few in
        let r_is : r ≡ stride m.n = e ∙ ap stride sizes.size in
        let here : m.count * r ≡ m.count * stride m.n = ap (λ (k : ℕ). m.count * k) r_is in
        record {
          is = r_is;
          ends = subst (λ (k : ℕ). m.count * r + stride k ≤ length b) right.same (omega (arith, w, right.buffer.whole, here));
          small = omega (arith, w, z, here);
        }

    -- l is the buffer as the code leaves it
    pub store_done : {l : List Float} → l ≡ placed (m.count * r) (slot_numbers (slot_of s)) b → (Ok (smoother m.n m.room (m.count + 1)), l) ≡ store_in m b s
    store_done g =
        (λ i. (Ok (smoother m.n m.room (m.count + 1)), (g ∙ ap (λ (r : ℕ). placed (m.count * r) (slot_numbers (slot_of s)) b) fitting.is) i))
        ∙ ap₂ (λ (t u : Bool). left (if_sized t (refused_if u BufferFull after))) (sym sizes.passed) (sym (lt-leb m.room m.count q))
