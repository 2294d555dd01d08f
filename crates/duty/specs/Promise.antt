-- What is promised of the refusals of `smooth` on lent buffers: sizes come first, then the count, and none changes the output. Definitions only.
use Rattle.std.specs.Prelude.{◌≡◌, true, false, List, ℕ, length, Float, Err}
use Rattle.answer.specs.declared.Refusal.{Refusal}
use Rattle.answer.specs.declared.Refusal.TheVariants.{WrongSize, InsufficientData}
use Rattle.duty.specs.Buffer.{smoothable}
use Rattle.duty.specs.Passed.{smooth_into, smooth_of}

pub record Refusals : Type 0 where
  -- a size that does not fit is 1, whatever the slots hold
  pub sizes-first : (n T c : ℕ) (b : List Float) (f : List (List Float)) (o : List Float) → smoothable (length b) (length o) n T c ≡ false
      → smooth_of n T c b f o ≡ (Err WrongSize, o)
  -- no slot is 2
  pub no_slot : (n T : ℕ) (b : List Float) (f : List (List Float)) (o : List Float) → smoothable (length b) (length o) n T 0 ≡ true
      → smooth_of n T 0 b f o ≡ (Err InsufficientData, o)
  -- whatever the cause, the output stays
  pub output-stays : (n T c : ℕ) (b : List Float) (f : List (List Float)) (o : List Float) (k : Refusal) → smooth_into n T c b f o ≡ Err k
      → smooth_of n T c b f o ≡ (Err k, o)
