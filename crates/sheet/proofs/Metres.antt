-- Whole metres of all positions, one after another. Assumes nothing.
use mathlib.Core.Path.{◌≡◌, refl, ◌∙◌}
use mathlib.Core.List.{List, [], ◌∷◌, ◌++◌, append_assoc, append-nil}
use Prim.Native.Nat.{ℕ, ◌+◌, ◌≤◌, ◌<◌}
use native.Mathlib.Nat.{add_assoc}
use native.Mathlib.Numerals.{add-one}
use native.Mathlib.Omega.{arith}
use lib.IntN.{ℤ}
use lib.Ieee.{Float}
use lib.ListN.{length, drop, get_or, drop_of_length-le, length-append}
use lib.Seq.{drop-cons}
use Rattle.std.specs.Prelude.{None, Some, Ok, Err}
use Rattle.arrayvec.specs.ArrayVec.{ArrayVec}
use Rattle.answer.specs.declared.Refusal.TheVariants.{NoWholeMetres}
use Rattle.sheets.specs.Metres.{metres_of}
use Rattle.sheets.specs.Verdict.{Verdict, refused, mapped, prepend}
use Rattle.sheets.specs.Output.{all_metres}
use Rattle.sheet.specs.Held.{metres_held}

-- e, followed by these
abbrev after : List ℤ → List ℤ → ArrayVec ℤ
after e zs = record { items = e ++ zs }

after_prepend : (e : List ℤ) (z : ℤ) (r : Verdict (List ℤ)) → mapped (after e) (prepend z r) ≡ mapped (after (e ++ z ∷ [])) r
after_prepend e z (Err w) = refl
after_prepend e z (Ok zs) = rw append_assoc

-- the positions before i have the whole metres e
pub record Marked (xs : List Float) (first : ℕ) (e : List ℤ) (i : ℕ) : Type 0 where
  pub long : length e ≡ i
  pub rest : mapped metres_held (all_metres first xs) ≡ mapped (after e) (all_metres (first + i) (drop i xs))

module _ {xs : List Float} {first : ℕ} {e : List ℤ} {i : ℕ} (m : Marked xs first e i) where
  pub marks_all : length xs ≤ i → mapped metres_held (all_metres first xs) ≡ Ok (record { items = e })
  unfolding all_metres
  marks_all h = m.rest ∙ rw (drop_of_length-le xs h, append-nil)

  module _ (x : Float) (h : i < length xs) where
    pub marks_bad : metres_of (get_or xs i x) ≡ None → mapped metres_held (all_metres first xs) ≡ refused NoWholeMetres (first + i)
    unfolding all_metres
    marks_bad b = m.rest ∙ rw (drop-cons xs i x h, b)

    pub marks_more : (z : ℤ) → metres_of (get_or xs i x) ≡ Some z → Marked xs first (e ++ z ∷ []) (i + 1)
    unfolding all_metres
    marks_more z b =
        record {
          long = let q = m.long in rw length-append (omega arith);
          rest = m.rest ∙ rw (drop-cons xs i x h, b, after_prepend, ← add_assoc first i 1, add-one i);
        }
