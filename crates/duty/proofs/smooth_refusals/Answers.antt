-- `smooth_refusals` keeps its promise: each is a case of the call's definition.
use mathlib.Core.Path.{ap}
use mathlib.Core.Bool.{Bool}
use mathlib.Core.List.{List}
use Prim.Native.Nat.{ℕ}
use lib.Ieee.{Float}
use Rattle.answer.specs.Answer.{Answer, if_sized, mapped}
use Rattle.algebra.specs.Array.{used}
use Rattle.smoothing.specs.Backward.{pass}
use Rattle.smoothing.specs.Smoother.{smooth, smooth_slots}
use Rattle.duty.specs.Buffer.{duty_of, output_of}
use Rattle.duty.specs.Passed.{smooth_left}
use Rattle.duty.proofs.smooth_refusals.Goals as goal

-- the call after its test of sizes
sized : ℕ → ℕ → ℕ → List Float → List (List Float) → List Float → Bool → Answer Unit × List Float
sized n T c b f o t = smooth_left (λ (l : List Float). l) o (if_sized t (mapped (output_of n T) (smooth (duty_of n (used n n f) b c))))

pub returns : goal.returns
unfolding sized smooth smooth_slots pass duty_of
returns c = record {
  sizes-first = λ n T c b f o h. ap (sized n T c b f o) h;
  no_slot = λ n T b f o h. ap (sized n T 0 b f o) h;
  output-stays = λ n T c b f o k h. ap (smooth_left (λ (l : List Float). l) o) h;
}
