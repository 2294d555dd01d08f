-- The records of the code: which slot a filtered state holds, and what each call answers and leaves. Definitions only.
use Rattle.std.specs.Prelude.{ℕ, ◌+◌, ◌*◌, List, [], Bool, ◌&&◌, cond, leb, eqb, is_ok, length, take, drop, Float}
use Rattle.answer.specs.declared.Step.{Step}
use Rattle.answer.specs.declared.Refusal.TheVariants.{BufferFull, IndexOutOfRange}
use Rattle.answer.specs.Answer.{Answer, mapped, refused_if, where_sized, if_sized}
use Rattle.answer.specs.Outcome.{into, standing}
use Rattle.algebra.specs.Array.{cut, used, used_flat, pad_row, pad, flat_of_rows}
use Rattle.sizes.specs.Size.{sized}
use Rattle.filtering.specs.Filter.{estimate}
use Rattle.layout.specs.Layout.{placed, stride}
use Rattle.smoothing.specs.Smoother.{Slot}
use Rattle.duty.specs.Buffer.{slot_numbers, counted, buffered}
use Rattle.duty.specs.Passed.{smooth_left, smooth_into}
use Rattle.duty.specs.declared.Room.{Room}
use Rattle.rts_smoother.specs.declared.FilteredState.{FilteredState}
use Rattle.rts_smoother.specs.declared.RtsSmoother.{RtsSmoother}

-- ---- slots

-- the slot in a record, and in arrays of rows with the size n beside them
abbrev pub slot_of : FilteredState → Slot
slot_of s = record {
  filtered = estimate (cut s.n s.x) (used_flat s.n s.n s.p);
  predicted = estimate (cut s.n s.x_pred) (used_flat s.n s.n s.p_pred);
}

abbrev pub slot_of_rows : ℕ → List Float → List (List Float) → List Float → List (List Float) → Slot
slot_of_rows n x p y q = record { filtered = estimate (cut n x) (used n n p); predicted = estimate (cut n y) (used n n q) }

-- the record of a slot; a matrix stands flat, +0 outside its sizes
abbrev pub record_of : ℕ → Slot → FilteredState
record_of n s = record {
  n = n;
  x = pad_row s.filtered.state;
  p = flat_of_rows (pad s.filtered.covariance);
  x_pred = pad_row s.predicted.state;
  p_pred = flat_of_rows (pad s.predicted.covariance);
}

-- refused with 1: no size
abbrev pub state_from : ℕ → List Float → List (List Float) → List Float → List (List Float) → Answer FilteredState
state_from n x p y q = where_sized (sized n) (record_of n (slot_of_rows n x p y q))

-- ---- the smoother's record; a refusal leaves it unchanged
abbrev pub smoother : ℕ → ℕ → ℕ → RtsSmoother
smoother n T c = record { n = n; room = T; count = c }

abbrev pub well_counted : RtsSmoother → Bool
well_counted m = counted m.n m.room m.count

abbrev pub room_of : RtsSmoother → Room
room_of m = record { n = m.n; room = m.room; count = m.count }

-- what is told, and the smoother after it
abbrev pub stored : RtsSmoother → Answer RtsSmoother → Step (Unit {0}) RtsSmoother
stored m a = let w = smooth_left (λ o. o) m a in record { answer = w.0; left = w.1 }

-- no slot is stored
abbrev pub new_of : ℕ → ℕ → Answer RtsSmoother
new_of n T = where_sized (counted n T 0) (smoother n T 0)

abbrev pub emptied : RtsSmoother → Answer RtsSmoother
emptied m = where_sized (well_counted m) (smoother m.n m.room 0)

abbrev pub reset_of : RtsSmoother → Step (Unit {0}) RtsSmoother
reset_of m = stored m (emptied m)

abbrev pub len_of : RtsSmoother → Answer ℕ
len_of m = where_sized (well_counted m) m.count

abbrev pub is_empty_of : RtsSmoother → Answer Bool
is_empty_of m = where_sized (well_counted m) (eqb m.count 0)

-- ---- calls that are lent a buffer: what they tell, and what the buffer holds in the end

-- a buffer of m numbers, and a slot of the smoother's size
unfoldable pub storable : ℕ → ℕ → ℕ → ℕ → ℕ → Bool
storable m n T c size = buffered m n T c && eqb n size

-- the count and the buffer with one slot more: refused with 1 for the sizes, with 5 where the count is T
abbrev pub store_forward : RtsSmoother → List Float → FilteredState → Answer (ℕ × List Float)
store_forward m b s =
    if_sized (storable (length b) m.n m.room m.count s.n)
    (refused_if (leb m.room m.count) BufferFull (m.count + 1, placed (m.count * stride m.n) (slot_numbers (slot_of s)) b))

-- the smoother after it, and the buffer
abbrev pub store_in : RtsSmoother → List Float → FilteredState → Answer RtsSmoother × List Float
store_in m b s = let a = store_forward m b s in (mapped (λ w. smoother m.n m.room w.0) a, standing (λ w. w.1) b (into a).left)

-- what is told, the smoother and the buffer
abbrev pub store_of : RtsSmoother → List Float → FilteredState → Answer (Unit {0}) × (RtsSmoother × List Float)
store_of m b s = smooth_left (λ w. (smoother m.n m.room w.0, w.1)) (m, b) (store_forward m b s)

-- why slot k cannot be handed out: refused with 1 for the sizes, with 6 where k is not below the count
abbrev pub get_state_refusal : RtsSmoother → List Float → ℕ → Answer (Unit {0})
get_state_refusal m b k = if_sized (buffered (length b) m.n m.room m.count) (refused_if (leb m.count k) IndexOutOfRange tt)

-- slot k's numbers as they lie in the buffer; none where it cannot be handed out
abbrev pub get_state : RtsSmoother → List Float → ℕ → List Float
get_state m b k = cond (is_ok (get_state_refusal m b k)) (take (stride m.n) (drop (k * stride m.n) b)) []

-- where that part begins, for a buffer that begins at p, a block and a number of bytes: at slot k, or where the buffer does
abbrev pub place_of : RtsSmoother → List Float → ℕ → ℕ × ℕ → ℕ × ℕ
place_of m b k p = cond (is_ok (get_state_refusal m b k)) (p.0, k * stride m.n * 8 + p.1) p

-- the smoother's stored slots, with a transition of size k; refused with 1 also where that is not the smoother's
abbrev pub smooth_with : RtsSmoother → List Float → List (List Float) → ℕ → List Float → Answer (Unit {0}) × List Float
smooth_with m b f k o = smooth_left (λ l. l) o (if_sized (eqb m.n k) (smooth_into m.n m.room m.count b f o))
