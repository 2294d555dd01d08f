-- To unfold this is to unfold every definition that a case of tracking computes with. Assumes nothing.
use Prim.Native.Nat.{ℕ}
use mathlib.Core.List as List
use Rattle.filtering.proofs.Computing as Filtering
use Rattle.smoothing.proofs.Computing as Smoothing
use Rattle.tracking.specs.Track as Track

unfoldable pub computing : ℕ
unfolding Filtering.computing Smoothing.computing List.zip_with
    Track.moved Track.corrected Track.filter Track.slot_of Track.slots_from Track.rejects Track.latest Track.smoothed_by Track.slots Track.track
computing = 0
