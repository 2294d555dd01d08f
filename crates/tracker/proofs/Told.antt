-- What the slots lead to: the positions that are gathered, or the place of a refusal. Assumes nothing.
use Prim.Native.Nat.{ℕ, zero, suc, ◌+◌, ◌*◌, ◌≤◌}
use native.Mathlib.Omega.{arith}
use mathlib.Core.Path.{◌≡◌, refl, sym, ap, ap₂, ◌∙◌}
use mathlib.Core.Bool.{Bool, true, ◌&&◌}
use mathlib.Core.List.{List, [], ◌∷◌, map, zip_with}
use lib.ListN.{length, replicate}
use lib.Ieee.{Float}
use borrow.Author.Tests.{le-leb}
use Rattle.std.specs.Prelude.{Option, Ok, Err}
use Rattle.scalar.specs.Number.{+0}
use Rattle.answer.specs.declared.Refusal.{Refusal}
use Rattle.answer.specs.Answer.{Answer}
use Rattle.answer.specs.Table.{table, pad_to}
use Rattle.answer.proofs.Tables.{table_ext, map-table}
use Rattle.algebra.specs.Matrix.{at}
use Rattle.algebra.specs.Array.{cut, used}
use Rattle.sizes.specs.Size.{sized}
use Rattle.road.specs.declared.Two.{Two}
use Rattle.road.specs.Road.{matrix_of}
use Rattle.smoothing.specs.Smoother.{Duty, smooth}
use Rattle.duty.specs.Buffer.{pair_at, slot_from, slot_at, slots_of, duty_of, roomy, counted, buffered}
use Rattle.duty.specs.Buffer.{smoothable}
use Rattle.duty.specs.Passed.{smooth_of}
use Rattle.rts_pass.specs.Call.{Call, pairs_of, answer_of}
use Rattle.rts_pass.proofs.Call.{call_is_smooth}
use Rattle.tracking.specs.Track.{Smoothed, positions, latest, refused_at}
use Rattle.tracking.proofs.Latest.{smoothed-refused, smoothed-answered}
use Rattle.tracker.specs.Tracked.{gathered_from, told, smoothed_of}

zip_tables : {A B C : Type 0} (f : A → B → C) (c : ℕ) (g : ℕ → A) (h : ℕ → B) → zip_with f (table c g) (table c h) ≡ table c (λ k. f (g k) (h k))
unfolding zip_with
zip_tables f zero g h = refl
zip_tables {C = C} f (suc c) g h = ap (λ (l : List C). f (g zero) (h zero) ∷ l) (zip_tables f c (λ k. g (suc k)) (λ k. h (suc k)))

-- ---- positions, gathered from slots and from pairs
module _ (b p : List Float) (c : ℕ) where
  results : zip_with positions (slots_of 2 b c) (pairs_of 2 c p) ≡ table c (λ k. positions (slot_at 2 b k) (pair_at 2 p (k * 6)))
  results = zip_tables positions c (λ k. slot_at 2 b k) (λ k. pair_at 2 p (k * 6))

  filtered_is : table c (λ k. at b (k * 12)) ≡ map (λ r. r.filtered) (zip_with positions (slots_of 2 b c) (pairs_of 2 c p))
  unfolding slot_from pair_at
  filtered_is =
      table_ext c _ _ (λ k h. let e : k * 12 ≡ k * 12 + 0 = omega arith in ap (at b) e)
      ∙ sym (ap (map (λ (r : Smoothed). r.filtered)) results ∙ map-table (λ (r : Smoothed). r.filtered) c _)

  smoothed_is : table c (λ k. at p (k * 6)) ≡ map (λ r. r.smoothed) (zip_with positions (slots_of 2 b c) (pairs_of 2 c p))
  unfolding slot_from pair_at
  smoothed_is =
      table_ext c _ _ (λ k h. let e : k * 6 ≡ k * 6 + 0 = omega arith in ap (at p) e)
      ∙ sym (ap (map (λ (r : Smoothed). r.smoothed)) results ∙ map-table (λ (r : Smoothed). r.smoothed) c _)

-- the transition of two states in an array of rows
abbrev pub rows_of : Two → List (List Float)
rows_of a = (a.a ∷ a.b ∷ +0 ∷ +0 ∷ []) ∷ (a.c ∷ a.d ∷ +0 ∷ +0 ∷ []) ∷ replicate 4 +0 ∷ replicate 4 +0 ∷ []

-- ---- the call of `smooth` over c of 64 slots in b, with the transition a; it told s, and p is its output
module _ (b : List Float) (c : ℕ) (a : Two) (long : length b ≡ 768) (few : c ≤ 64)
    {s : Answer Unit} {p : List Float} (e : (s, p) ≡ smooth_of 2 64 c b (rows_of a) (replicate 384 +0)) where
  right : smoothable (length b) 384 2 64 c ≡ true
  unfolding smoothable buffered counted roomy sized
  right = ap₂ (λ (m : ℕ) (t : Bool). ((true && (true && t)) && lib.Dec.eqb m 768) && true) long (le-leb c 64 few)

  call : Call
  call = record { slots = b; n = 2; room = 64; count = c; transition = rows_of a; output = replicate 384 +0; right = right }

  duty : Duty
  duty = record { size = 2; transition = matrix_of a; slots = slots_of 2 b c }

  answers : answer_of 2 c s p ≡ smooth duty
  unfolding call duty duty_of used cut
  answers = ap (λ (w : Answer Unit × List Float). answer_of 2 c w.0 w.1) e ∙ call_is_smooth call

  pub told-done : {x y : List Float} {u : Unit} → s ≡ Ok u → x ≡ gathered_from b 12 c → y ≡ gathered_from p 6 c
      → Ok (record { filtered = x; smoothed = y }) ≡ smoothed_of (matrix_of a) (slots_of 2 b c)
  unfolding duty
  told-done d ex ey =
      let r = smoothed-answered positions duty (sym answers ∙ ap (λ (t : Answer Unit). answer_of 2 c t p) d) in
      (λ i. Ok (record { filtered = (ex ∙ ap (pad_to 64 +0) (filtered_is b p c)) i; smoothed = (ey ∙ ap (pad_to 64 +0) (smoothed_is b p c)) i }))
      ∙ sym (ap told r)

  -- o is the latest slot that is rejected
  pub told-refused : {k : Refusal} {o : Option ℕ} → s ≡ Err k → o ≡ latest 2 (slots_of 2 b c) → told (refused_at o) ≡ smoothed_of (matrix_of a) (slots_of 2 b c)
  unfolding duty
  told-refused d eo =
      ap (λ (q : Option ℕ). told (refused_at q)) eo ∙ sym (ap told (smoothed-refused positions duty (sym answers ∙ ap (λ (t : Answer Unit). answer_of 2 c t p) d)))
