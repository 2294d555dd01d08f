-- The smoother's slots, pairs and output in slices: what each call answers, for state size n and room for T slots, of which c are stored. Definitions only.
use Rattle.std.specs.Prelude.{ℕ, ◌+◌, ◌*◌, List, ◌++◌, Bool, ◌&&◌, leb, eqb, length, take, drop, Float}
use Rattle.answer.specs.declared.Refusal.TheVariants.{BufferFull, IndexOutOfRange}
use Rattle.answer.specs.Answer.{Answer, mapped, refused_if, if_sized}
use Rattle.sizes.specs.Size.{sized}
use Rattle.layout.specs.Layout.{matrix_at, placed, pair_length, stride}
use Rattle.smoothing.specs.Smoother.{smooth}
use Rattle.duty.specs.Buffer.{duty_of, output_of, buffered}
use Rattle.duty.specs.Buffer.{smoothable}

-- n is a size, and a slice of m numbers is just k pairs; a slot is two
unfoldable pub is_pairs : ℕ → ℕ → ℕ → Bool
is_pairs n k m = sized n && eqb m (k * pair_length n)

-- n is a size, and a slice of m numbers is just n rows of n
unfoldable pub is_square : ℕ → ℕ → Bool
is_square n m = sized n && eqb m (n * n)

-- two pairs, of f and p numbers, and slots of b numbers; and a slot of m numbers, and slots of b numbers
abbrev pub storable : ℕ → ℕ → ℕ → ℕ → ℕ → ℕ → Bool
storable n T c b f p = (is_pairs n 1 f && is_pairs n 1 p) && buffered b n T c

abbrev pub readable : ℕ → ℕ → ℕ → ℕ → ℕ → Bool
readable n T c b m = is_pairs n 2 m && buffered b n T c

-- the count and the slots b with the pairs f and p as one slot more: refused with 1 for the sizes, with 5 where c is T
abbrev pub store_in : ℕ → ℕ → ℕ → List Float → List Float → List Float → Answer (ℕ × List Float)
store_in n T c b f p =
    if_sized (storable n T c (length b) (length f) (length p))
    (refused_if (leb T c) BufferFull (c + 1, placed (c * stride n) (f ++ p) b))

-- slot k of b, for a slice of m numbers: refused with 1 for the sizes, with 6 where k is not below c
abbrev pub slot_in : ℕ → ℕ → ℕ → List Float → ℕ → ℕ → Answer (List Float)
slot_in n T c b k m = if_sized (readable n T c (length b) m) (refused_if (leb c k) IndexOutOfRange (take (stride n) (drop (k * stride n) b)))

-- the output that smoothing the first c slots of b with the transition f leaves in one of m numbers: refused with 1 for the sizes, and else as smoothing is
abbrev pub smooth_in : ℕ → ℕ → ℕ → List Float → List Float → ℕ → Answer (List Float)
smooth_in n T c b f m = if_sized (is_square n (length f) && smoothable (length b) m n T c) (mapped (output_of n T) (smooth (duty_of n (matrix_at n n f 0) b c)))
