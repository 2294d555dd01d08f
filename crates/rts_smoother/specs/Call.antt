-- A call of the method `RtsSmoother::smooth` as a duty: what it answers, and writes for the stored slots, by its contract. Definitions only.
use Rattle.std.specs.Prelude.{ℕ, ◌≡◌, true, List, [], ◌∷◌, ◌++◌, eqb, Float, Ok}
use Rattle.answer.specs.Answer.{Answer}
use Rattle.algebra.specs.Matrix.{Matrix}
use Rattle.filtering.specs.Filter.{Estimate}
use Rattle.smoothing.specs.Smoother.{Duty}
use Rattle.duty.specs.Buffer.{duty_of}
use Rattle.rts_pass.specs.Call.{Call, answer_of}
use Rattle.rts_pass.specs.Call as Pass
use Rattle.rts_smoother.specs.declared.FilteredState.{FilteredState}
use Rattle.rts_smoother.specs.declared.RtsSmoother.{RtsSmoother}
use Rattle.rts_smoother.specs.Record.{slot_of, smoother, store_forward, smooth_with}

-- the pass's call that it makes, with a transition of the smoother's size
pub record MethodCall : Type 0 where
  pub call : Call
  pub size : ℕ
  pub agrees : eqb call.n size ≡ true

abbrev pub duty : MethodCall → Duty
duty c = Pass.duty c.call

abbrev pub run : MethodCall → Answer (List Estimate)
run c =
    let k = c.call in
    let x = smooth_with (smoother k.n k.room k.count) k.slots k.transition c.size k.output in
    answer_of k.n k.count x.0 x.1

-- the duty after a store is the one before it, with the slot as its last
pub record StoredDuty : Type 0 where
  pub one_more : (m : RtsSmoother) (F : Matrix) (s : FilteredState) (b b' : List Float) (c : ℕ) → store_forward m b s ≡ Ok (c, b')
      → (duty_of m.n F b' c).slots ≡ (duty_of m.n F b m.count).slots ++ (slot_of s ∷ [])
