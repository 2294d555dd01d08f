-- The latest slot rejected: where `latest` finds it, and that it is where smoothing is refused with 3. Assumes nothing.
use Prim.Native.Nat.{ℕ, zero, suc}
use native.Mathlib.Omega.{arith}
use mathlib.Core.Path.{◌≡◌, refl, sym, ap, ◌∙◌, subst}
use mathlib.Core.Bool.{Bool, true, false, cond}
use mathlib.Core.Logic.{◌⊎◌, inl, inr}
use mathlib.Core.List.{List, [], ◌∷◌, zip_with}
use lib.ListN.{length, drop}
use Rattle.std.specs.Prelude.{Option, None, Some, Ok, Err}
use Rattle.answer.specs.declared.Refusal.{Refusal}
use Rattle.answer.specs.declared.Refusal.TheVariants.{InsufficientData, SingularMatrix}
use Rattle.answer.specs.Answer.{Answer}
use Rattle.algebra.specs.Matrix.{Matrix}
use Rattle.algebra.specs.Inverse.{inv}
use Rattle.algebra.proofs.Inverses.{inv-refused}
use Rattle.filtering.specs.Filter.{Estimate}
use Rattle.smoothing.specs.Backward.{BeforeLast, this, later}
use Rattle.smoothing.specs.Demand3.{Rejected}
use Rattle.smoothing.specs.Smoother.{Slot, Duty, smooth}
use Rattle.smoothing.proofs.Demand3.{demand3}
use Rattle.tracking.specs.Track.{Tracked, rejected, tracked, rejects, or_here, latest, refused_at, smoothed_by}
use Rattle.tracking.specs.Laws.{Latest}

-- the test is that inversion refuses, and its number is 3
module _ (n : ℕ) (s : Slot) where
  pub rejects-true : rejects n s ≡ true → Rejected n s
  unfolding rejects
  rejects-true e = go (inv n s.predicted.covariance) refl e
    where
      go : (a : Answer Matrix) → inv n s.predicted.covariance ≡ a → elim a [ Err k ↦ true | Ok W ↦ false ] ≡ true → a ≡ Err SingularMatrix
      go (Err k) p q = ap Err (inv-refused n s.predicted.covariance k p)
      go (Ok W) p q = cc

  pub rejected-true : Rejected n s → rejects n s ≡ true
  unfolding rejects
  rejected-true h = ap (λ (a : Answer Matrix). elim a [ Err k ↦ true | Ok W ↦ false ]) h

-- what `latest` says of the slots l
data Search (n : ℕ) (l : List Slot) : Option ℕ → Type 0 where
  found : {k : ℕ} → Latest n l k → Search n l (Some k)
  nothing : (BeforeLast (Rejected n) l → ⊥) → Search n l None

module _ (n : ℕ) where
  none_in_one : (s : Slot) → BeforeLast (Rejected n) (s ∷ []) → ⊥
  none_in_one s = elim [ ]

  module _ (s t : Slot) (l : List Slot) where
    neither : rejects n s ≡ false → (BeforeLast (Rejected n) (t ∷ l) → ⊥) → BeforeLast (Rejected n) (s ∷ t ∷ l) → ⊥
    neither e h (this r) = let z : true ≡ false = sym (rejected-true n s r) ∙ e in let c : ◌≡◌ {A = ℕ} 0 1 = cc in omega arith
    neither e h (later b) = h b

    -- found later; here; nowhere
    step : {o : Option ℕ} → Search n (t ∷ l) o → Search n (s ∷ t ∷ l) (or_here (rejects n s) o)
    step (found c) = found (record { slot = c.slot; next = c.next; later = c.later; there = c.there; is_rejected = c.is_rejected; no_later = c.no_later })
    step (nothing h) = go (rejects n s) refl
      where
        go : (b : Bool) → rejects n s ≡ b → Search n (s ∷ t ∷ l) (cond b (Some 0) None)
        go true e = found (record { slot = s; next = t; later = l; there = refl; is_rejected = rejects-true n s e; no_later = h })
        go false e = nothing (neither e h)

  search : (l : List Slot) → Search n l (latest n l)
  unfolding latest
  search [] = nothing (elim [ ])
  search (s ∷ []) = nothing (none_in_one s)
  search (s ∷ t ∷ l) = step s t l (search (t ∷ l))

  -- of the slots from k on, the first is the latest
  pub latest_from : (k : ℕ) (l : List Slot) → latest n (drop k l) ≡ Some 0 → latest n l ≡ Some k
  unfolding latest
  latest_from zero l e = e
  latest_from (suc k) [] e = cc
  latest_from (suc zero) (s ∷ []) e = cc
  latest_from (suc (suc k)) (s ∷ []) e = cc
  latest_from (suc k) (s ∷ t ∷ l) e = ap (or_here (rejects n s)) (latest_from k (t ∷ l) e)

  -- the first of the slots, none later
  pub latest-first : (s t : Slot) (l : List Slot) → Rejected n s → latest n (t ∷ l) ≡ None → latest n (s ∷ t ∷ l) ≡ Some 0
  unfolding latest
  latest-first s t l r e = ap (or_here (rejects n s)) e ∙ ap (λ (b : Bool). cond b (Some 0) None) (rejected-true n s r)

  rejected_from : (k : ℕ) (l : List Slot) → BeforeLast (Rejected n) (drop k l) → BeforeLast (Rejected n) l
  rejected_from zero l b = b
  rejected_from (suc k) [] b = b
  rejected_from (suc zero) (s ∷ []) b = elim b [ ]
  rejected_from (suc (suc k)) (s ∷ []) b = elim b [ ]
  rejected_from (suc k) (s ∷ t ∷ l) b = later (rejected_from k (t ∷ l) b)

  module _ (l : List Slot) (k : ℕ) (c : Latest n l k) where
    latest-rejected : BeforeLast (Rejected n) l
    latest-rejected = rejected_from k l (subst (BeforeLast (Rejected n)) (sym c.there) (this c.is_rejected))

  -- found, or none is rejected
  pub latest-none : (l : List Slot) → (BeforeLast (Rejected n) l → ⊥) → latest n l ≡ None
  latest-none l h = go (latest n l) (search l)
    where
      go : (o : Option ℕ) → Search n l o → o ≡ None
      go (Some k) (found c) = absurd (h (latest-rejected l k c))
      go None x = refl

  pub latest_at : (l : List Slot) (k : ℕ) → Latest n l k → latest n l ≡ Some k
  latest_at l k c =
      latest_from k l (ap (latest n) c.there ∙ latest-first c.slot c.next c.later c.is_rejected (latest-none (c.next ∷ c.later) c.no_later))

-- ---- the slots smoothed
module _ {R : Type 0} (f : Slot → Estimate → R) (d : Duty) where
  -- refused with 3, at the latest slot rejected; no slot; or a result for each
  pub data Settled : Tracked (List R) → Type 0 where
    stopped : {k : ℕ} → smooth d ≡ Err SingularMatrix → Latest d.size d.slots k → Settled (rejected k)
    empty : d.slots ≡ [] → Settled (tracked [])
    paired : {r : List Estimate} → smooth d ≡ Ok r → length r ≡ length d.slots → Settled (tracked (zip_with f d.slots r))

  unsmoothed : (k : Refusal) → smooth d ≡ Err k → (o : Option ℕ) → Search d.size d.slots o → Settled (refused_at o)
  unsmoothed k e (Some j) (found c) = stopped ((demand3.refusals d SingularMatrix).1 (inr (latest-rejected d.size d.slots j c, refl))) c
  unsmoothed k e None (nothing h) = go ((demand3.refusals d k).0 e)
    where
      go : ((d.slots ≡ []) × (k ≡ InsufficientData)) ⊎ (BeforeLast (Rejected d.size) d.slots × (k ≡ SingularMatrix)) → Settled (tracked [])
      go (inl p) = empty p.0
      go (inr p) = absurd (h p.0)

  abbrev told : Answer (List Estimate) → Tracked (List R)
  told a = elim a [ Err k ↦ refused_at (latest d.size d.slots) | Ok r ↦ tracked (zip_with f d.slots r) ]

  pub settled : Settled (smoothed_by f d)
  unfolding smoothed_by
  settled = go (smooth d) refl
    where
      go : (a : Answer (List Estimate)) → smooth d ≡ a → Settled (told a)
      go (Err k) e = unsmoothed k e (latest d.size d.slots) (search d.size d.slots)
      go (Ok r) e = paired e (demand3.count d r e)

  pub smoothed-refused : {j : Refusal} → smooth d ≡ Err j → smoothed_by f d ≡ refused_at (latest d.size d.slots)
  unfolding smoothed_by
  smoothed-refused e = ap told e

  pub smoothed-answered : {r : List Estimate} → smooth d ≡ Ok r → smoothed_by f d ≡ tracked (zip_with f d.slots r)
  unfolding smoothed_by
  smoothed-answered e = ap told e
