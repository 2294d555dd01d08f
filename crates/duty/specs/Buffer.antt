-- How slots and smoothed pairs lie in lent buffers, one number after another, for state size n. Definitions only.
use Rattle.std.specs.Prelude.{ℕ, ◌+◌, ◌*◌, List, ◌++◌, map, Bool, ◌&&◌, leb, eqb, length, take, drop, Float}
use Rattle.scalar.specs.Number.{+0}
use Rattle.answer.specs.declared.Refusal.TheVariants.{IndexOutOfRange}
use Rattle.answer.specs.Answer.{Answer, refused_if, if_sized}
use Rattle.answer.specs.Table.{table, pad_to}
use Rattle.algebra.specs.Matrix.{Matrix}
use Rattle.sizes.specs.Size.{sized}
use Rattle.layout.specs.Layout.{vector_at, matrix_at, joined, pair_length, stride}
use Rattle.filtering.specs.Filter.{Estimate}
use Rattle.smoothing.specs.Smoother.{Slot, Duty}

-- ---- what stands in a buffer b

-- the pair from number k on: state, then covariance by rows
unfoldable pub pair_at : ℕ → List Float → ℕ → Estimate
pair_at n b k = record { state = vector_at n b k; covariance = matrix_at n n b (k + n) }

-- the slot from number k on: filtered pair, then predicted pair
unfoldable pub slot_from : ℕ → List Float → ℕ → Slot
slot_from n b k = record { filtered = pair_at n b k; predicted = pair_at n b (k + pair_length n) }

-- slot k
abbrev pub slot_at : ℕ → List Float → ℕ → Slot
slot_at n b k = slot_from n b (k * stride n)

-- the first c slots, and as a duty; what stands past them plays no part
abbrev pub slots_of : ℕ → List Float → ℕ → List Slot
slots_of n b c = table c (λ k. slot_at n b k)

unfoldable pub duty_of : ℕ → Matrix → List Float → ℕ → Duty
duty_of n F b c = record { size = n; transition = F; slots = slots_of n b c }

-- ---- pairs and slots, one number after another
unfoldable pub pair_numbers : Estimate → List Float
pair_numbers e = e.state ++ joined e.covariance

unfoldable pub slot_numbers : Slot → List Float
slot_numbers s = pair_numbers s.filtered ++ pair_numbers s.predicted

-- the output with room for T pairs: the pairs, then +0
unfoldable pub output_of : ℕ → ℕ → List Estimate → List Float
output_of n T l = pad_to (T * pair_length n) +0 (joined (map pair_numbers l))

-- ---- sizes

-- room for 1 to 64 slots
unfoldable pub roomy : ℕ → Bool
roomy T = leb 1 T && leb T 64

-- a state size, a room, and a count of slots that have room
unfoldable pub counted : ℕ → ℕ → ℕ → Bool
counted n T c = sized n && (roomy T && leb c T)

-- and a buffer of m numbers that is just T slots long
unfoldable pub buffered : ℕ → ℕ → ℕ → ℕ → Bool
buffered m n T c = counted n T c && eqb m (T * stride n)

-- right sizes, and an output of o numbers that is just T pairs long
unfoldable pub smoothable : ℕ → ℕ → ℕ → ℕ → ℕ → Bool
smoothable m o n T c = buffered m n T c && eqb o (T * pair_length n)

-- ---- slot k, where it is stored

-- its numbers: refused with 1 for the sizes, with 6 where k is not below c
abbrev pub stored_slot : ℕ → ℕ → ℕ → List Float → ℕ → Answer (List Float)
stored_slot n T c b k = if_sized (buffered (length b) n T c) (refused_if (leb c k) IndexOutOfRange (take (stride n) (drop (k * stride n) b)))

-- where they begin, for a buffer that begins at p, a block and a number of bytes
abbrev pub slot_place : ℕ → ℕ → ℕ × ℕ → ℕ × ℕ
slot_place n k p = (p.0, k * stride n * 8 + p.1)
