-- A call on slices whose sizes are right answers as smoothing its duty does, so demand 3 holds of it. Assumes nothing.
use mathlib.Core.Path.{◌≡◌, refl, ap, ◌∙◌}
use mathlib.Core.Bool.{Bool}
use mathlib.Core.List.{List}
use lib.ListN.{length}
use Rattle.std.specs.Prelude.{Ok, Err}
use Rattle.answer.specs.Answer.{Answer, mapped, if_sized}
use Rattle.answer.proofs.Choice.{and_right}
use Rattle.filtering.specs.Filter.{Estimate}
use Rattle.layout.specs.Layout.{matrix_at}
use Rattle.smoothing.specs.Smoother.{smooth}
use Rattle.smoothing.specs.Demand3.{Demand3}
use Rattle.smoothing.proofs.Demand3.{demand3_by}
use Rattle.duty.specs.Buffer.{output_of}
use Rattle.rts_pass.specs.Call.{pairs_of}
use Rattle.duty.proofs.Sizes.{smoothable_of}
use Rattle.rts_pass.proofs.Call.{read_back}
use Rattle.c_smoothers.specs.Smoother.{is_square}
use Rattle.c_smoothers.specs.Call.{SliceCall, duty, run}

module _ (c : SliceCall) where
  answers : (a : Answer (List Estimate)) → smooth (duty c) ≡ a → mapped (pairs_of c.n c.count) (mapped (output_of c.n c.room) a) ≡ a
  answers (Err k) p = refl
  answers (Ok r) p =
      let sizes = smoothable_of (length c.slots) (length c.output) c.n c.room c.count (and_right (is_square c.n (length c.transition)) _ c.right) in
      ap Ok (read_back c.n c.room c.count (matrix_at c.n c.n c.transition 0) c.slots r p sizes.buffer.sizes.within)

  call_is_smooth : run c ≡ smooth (duty c)
  call_is_smooth =
      ap (λ (t : Bool). mapped (pairs_of c.n c.count) (if_sized t (mapped (output_of c.n c.room) (smooth (duty c))))) c.right
      ∙ answers (smooth (duty c)) refl

-- DEMAND 3 for the call on slices
pub demand3_of_slices : Demand3 duty run
demand3_of_slices = demand3_by duty run call_is_smooth
