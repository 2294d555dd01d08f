-- A call of `smooth` as a duty: what it answers, and writes for the stored slots, by its contract. Definitions only.
use Rattle.std.specs.Prelude.{ℕ, ◌*◌, ◌≡◌, true, List, length, Float}
use Rattle.answer.specs.Answer.{Answer, mapped}
use Rattle.answer.specs.Table.{table}
use Rattle.algebra.specs.Array.{used}
use Rattle.filtering.specs.Filter.{Estimate}
use Rattle.smoothing.specs.Smoother.{Duty}
use Rattle.layout.specs.Layout.{pair_length}
use Rattle.duty.specs.Buffer.{pair_at, duty_of}
use Rattle.duty.specs.Buffer.{smoothable}
use Rattle.duty.specs.Passed.{smooth_of}

-- what the call is given; all sizes are right
pub record Call : Type 0 where
  pub slots : List Float
  pub n : ℕ
  pub room : ℕ
  pub count : ℕ
  pub transition : List (List Float)
  pub output : List Float
  pub right : smoothable (length slots) (length output) n room count ≡ true

-- the duty that it is lent
abbrev pub duty : Call → Duty
duty c = duty_of c.n (used c.n c.n c.transition) c.slots c.count

-- the pairs of the first c slots in an output
abbrev pub pairs_of : ℕ → ℕ → List Float → List Estimate
pairs_of n c o = table c (λ k. pair_at n o (k * pair_length n))

-- what is told, with the numbers l that stand in the output in the end
abbrev pub answer_of : ℕ → ℕ → Answer (Unit {0}) → List Float → Answer (List Estimate)
answer_of n c t l = mapped (λ u. pairs_of n c l) t

abbrev pub run : Call → Answer (List Estimate)
run c = let x = smooth_of c.n c.room c.count c.slots c.transition c.output in answer_of c.n c.count x.0 x.1
