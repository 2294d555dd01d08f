-- A call of `smooth` whose sizes are right answers as smoothing its duty does, so demand 3 holds of it. Assumes nothing.
use mathlib.Core.Path.{◌≡◌, refl, sym, ap, ◌∙◌}
use mathlib.Core.Bool.{Bool}
use mathlib.Core.List.{List, map}
use Prim.Native.Nat.{ℕ, ◌+◌, ◌*◌, ◌≤◌}
use native.Mathlib.Nat.{mul-le-mul_right}
use native.Mathlib.Omega.{arith}
use lib.ListN.{length, replicate, length-replicate}
use lib.Ieee.{Float}
use Rattle.std.specs.Prelude.{Ok, Err}
use Rattle.scalar.specs.Number.{+0}
use Rattle.answer.specs.Answer.{Answer, mapped, if_sized}
use Rattle.answer.proofs.Tables.{table_ext}
use Rattle.algebra.specs.Matrix.{Matrix}
use Rattle.algebra.specs.Array.{used}
use Rattle.filtering.specs.Filter.{Estimate}
use Rattle.layout.specs.Layout.{joined, placed, pair_length}
use Rattle.smoothing.specs.Smoother.{smooth}
use Rattle.smoothing.specs.Demand3.{Demand3}
use Rattle.smoothing.proofs.Backward.{Each}
use Rattle.smoothing.proofs.Demand3.{demand3_by}
use Rattle.duty.specs.Buffer.{pair_at, duty_of, pair_numbers, output_of}
use Rattle.duty.specs.Passed.{smooth_left}
use Rattle.rts_pass.specs.Call.{Call, duty, pairs_of, answer_of, run}
use Rattle.duty.proofs.Sizes.{smoothable_of}
use Rattle.duty.proofs.Pairs.{Paired}
use Rattle.rts_pass.proofs.Outputs.{pairs-back, in_front_of, smoothed-pairs, smoothed-count}

-- the pairs that were written are read back
written_back : (n T : ℕ) (r : List Estimate) → Each (Paired n) r → length r ≤ T → pairs_of n (length r) (output_of n T r) ≡ r
unfolding output_of
written_back n T r h f =
    let w = pair_length n in
    let zeros = replicate (T * w) +0 in
    table_ext (length r) _ (λ k. pair_at n (placed 0 (joined (map pair_numbers r)) zeros) (0 + k * w))
    (λ k g. let e : k * w ≡ 0 + k * w = omega arith in λ i. pair_at n (sym (in_front_of (joined (map pair_numbers r)) (T * w)) i) (e i))
    ∙ pairs-back n r h 0 zeros (omega (arith, length-replicate (T * w) +0, mul-le-mul_right w f))

-- the same of the duty in a buffer, where it is answered
pub read_back : (n T c : ℕ) (F : Matrix) (b : List Float) (r : List Estimate) → smooth (duty_of n F b c) ≡ Ok r → c ≤ T → pairs_of n c (output_of n T r) ≡ r
unfolding smooth duty_of
read_back n T c F b r p h =
    let many = smoothed-count n F b c r p in
    ap (λ (k : ℕ). pairs_of n k (output_of n T r)) (sym many) ∙ written_back n T r (smoothed-pairs n F b c r p) (omega arith)

module _ (c : Call) where
  told : Answer (List Float) → Answer (List Estimate)
  told a = let x = smooth_left (λ l. l) c.output a in answer_of c.n c.count x.0 x.1

  answers : (a : Answer (List Estimate)) → smooth (duty c) ≡ a → told (mapped (output_of c.n c.room) a) ≡ a
  unfolding told smooth duty_of
  answers (Err k) p = refl
  answers (Ok r) p =
      let within = (smoothable_of (length c.slots) (length c.output) c.n c.room c.count c.right).buffer.sizes.within in
      ap Ok (read_back c.n c.room c.count (used c.n c.n c.transition) c.slots r p within)

  pub call_is_smooth : run c ≡ smooth (duty c)
  unfolding told
  call_is_smooth = ap (λ (t : Bool). told (if_sized t (mapped (output_of c.n c.room) (smooth (duty c))))) c.right ∙ answers (smooth (duty c)) refl

-- DEMAND 3 for the call
pub demand3_of_call : Demand3 duty run
demand3_of_call = demand3_by duty run call_is_smooth
