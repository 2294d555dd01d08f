-- A call of the method whose sizes are right answers as smoothing its duty does, so demand 3 holds of it; and a store adds a slot. Assumes nothing.
use mathlib.Core.Path.{◌≡◌, refl, sym, ap, ◌∙◌, subst⁻¹}
use mathlib.Core.Bool.{Bool, true, false}
use mathlib.Core.List.{List, [], ◌∷◌, ◌++◌}
use Prim.Native.Nat.{ℕ, ◌*◌, ◌≤◌}
use native.Mathlib.Nat.{mul-le-mul_right}
use native.Mathlib.Omega.{arith}
use lib.Dec.{leb}
use lib.ListN.{length}
use lib.Ieee.{Float}
use Rattle.std.specs.Prelude.{Ok}
use Rattle.answer.specs.declared.Refusal.TheVariants.{BufferFull}
use Rattle.answer.specs.Answer.{if_sized, refused_if}
use Rattle.algebra.specs.Matrix.{Matrix}
use Rattle.algebra.specs.Array.{used_flat}
use Rattle.algebra.proofs.Matrices.{shape-mat}
use Rattle.algebra.proofs.Arrays.{length_cut}
use Rattle.layout.specs.Layout.{stride}
use Rattle.smoothing.specs.Smoother.{smooth}
use Rattle.smoothing.specs.Demand3.{Demand3}
use Rattle.smoothing.proofs.Demand3.{demand3_by}
use Rattle.duty.specs.Passed.{smooth_left, smooth_into}
use Rattle.rts_pass.specs.Call.{answer_of}
use Rattle.rts_pass.proofs.Call.{call_is_smooth}
use Rattle.duty.specs.Buffer.{duty_of}
use Rattle.rts_smoother.specs.declared.FilteredState.{FilteredState}
use Rattle.rts_smoother.specs.declared.RtsSmoother.{RtsSmoother}
use Rattle.rts_smoother.specs.Record.{slot_of, storable, store_forward}
use Rattle.rts_smoother.specs.Call.{MethodCall, duty, run, StoredDuty}
use Rattle.rts_smoother.proofs.Records.{storable_of}
use Rattle.duty.proofs.Stores.{Slotted, stored-slots}

method_is_smooth : (c : MethodCall) → run c ≡ smooth (duty c)
method_is_smooth c =
    let k = c.call in
    ap
    (λ (t : Bool).
    let x = smooth_left (λ l. l) k.output (if_sized t (smooth_into k.n k.room k.count k.slots k.transition k.output)) in
    answer_of k.n k.count x.0 x.1)
    c.agrees
    ∙ call_is_smooth k

-- DEMAND 3 for the method
pub demand3_of_method : Demand3 duty run
demand3_of_method = demand3_by duty run method_is_smooth

-- ---- a store

-- what a store answers, where it answers
inside : {A : Type 0} (t f : Bool) (x y : A) → if_sized t (refused_if f BufferFull x) ≡ Ok y → (t ≡ true) × (x ≡ y)
inside true false x y e = (refl, cc)
inside true true x y e = (refl, cc)
inside false f x y e = (cc, cc)

-- the slot in a record is of the record's size
slotted : (s : FilteredState) → Slotted s.n (slot_of s)
unfolding used_flat
slotted s = record {
  filtered = record { state = length_cut s.n s.x; covariance = shape-mat s.n s.n _ };
  predicted = record { state = length_cut s.n s.x_pred; covariance = shape-mat s.n s.n _ };
}

pub stored-duty : StoredDuty
stored-duty = record { one_more = λ m F s b b' c e. more m F s b b' c e }
  where
    more : (m : RtsSmoother) (F : Matrix) (s : FilteredState) (b b' : List Float) (c : ℕ) → store_forward m b s ≡ Ok (c, b')
        → (duty_of m.n F b' c).slots ≡ (duty_of m.n F b m.count).slots ++ (slot_of s ∷ [])
    more m F s b b' c e =
        let i = inside (storable (length b) m.n m.room m.count s.n) (leb m.room m.count) _ (c, b') e in
        let t = storable_of (length b) m.n m.room m.count s.n i.0 in
        let fits : m.count * stride m.n ≤ length b = omega (arith, t.buffer.whole, mul-le-mul_right (stride m.n) t.buffer.sizes.within) in
        ap (λ (w : ℕ × List Float). (duty_of m.n F w.1 w.0).slots) (sym i.1)
        ∙ stored-slots m.n m.count F (slot_of s) b (subst⁻¹ (λ (k : ℕ). Slotted k (slot_of s)) t.same (slotted s)) fits
