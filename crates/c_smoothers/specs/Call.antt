-- A call of `rts_smoother_smooth` as a duty: what it answers, and the pairs that stand in its output then, by its contract. Definitions only.
use Rattle.std.specs.Prelude.{ℕ, ◌≡◌, true, ◌&&◌, List, length, Float}
use Rattle.answer.specs.Answer.{Answer, mapped}
use Rattle.filtering.specs.Filter.{Estimate}
use Rattle.layout.specs.Layout.{matrix_at}
use Rattle.smoothing.specs.Smoother.{Duty}
use Rattle.duty.specs.Buffer.{duty_of}
use Rattle.duty.specs.Buffer.{smoothable}
use Rattle.rts_pass.specs.Call.{pairs_of}
use Rattle.c_smoothers.specs.Smoother.{is_square, smooth_in}

-- what the call is given; all sizes are right
pub record SliceCall : Type 0 where
  pub n : ℕ
  pub room : ℕ
  pub count : ℕ
  pub slots : List Float
  pub transition : List Float
  pub output : List Float
  pub right : is_square n (length transition) && smoothable (length slots) (length output) n room count ≡ true

-- the duty that it is lent
abbrev pub duty : SliceCall → Duty
duty c = duty_of c.n (matrix_at c.n c.n c.transition 0) c.slots c.count

abbrev pub run : SliceCall → Answer (List Estimate)
run c = mapped (pairs_of c.n c.count) (smooth_in c.n c.room c.count c.slots c.transition (length c.output))
