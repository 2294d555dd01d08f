-- Laws of a call with sizes: the used part of what it made of an array. Assumes nothing.
use mathlib.Core.Path.{◌≡◌, refl, ap, ◌∙◌}
use mathlib.Core.Bool.{Bool, true, false, and_self}
use mathlib.Core.List.{List}
use Prim.Native.Nat.{ℕ, ◌≤◌, ◌<◌}
use native.Mathlib.Nat.{le_trans}
use lib.Ieee.{Float}
use Rattle.std.specs.Prelude.{Ok}
use Rattle.answer.specs.Answer.{Answer, where_sized}
use Rattle.algebra.specs.Matrix.{Matrix}
use Rattle.algebra.specs.Array.{used}
use Rattle.sizes.specs.declared.Size.{Size}
use Rattle.sizes.specs.Size.{size_of, sized, shaped, inside}
use Rattle.matrix.specs.Result.{as_matrix}
use Rattle.matrix.proofs.Results.{inside_given}
use Rattle.sizes.proofs.Sizes.{sizes_of, inside-sizes, bounds_of}

-- ---- an array's used part is B where the sizes are right
sized_ext : {A : Type 0} (t : Bool) {x y : A} → (t ≡ true → x ≡ y) → where_sized t x ≡ where_sized t y
sized_ext true h = ap Ok (h refl)
sized_ext false h = refl

pub part_is : (r c : ℕ) (a : List (List Float)) {B : Matrix} {m : Answer (List (List Float))} → (r ≤ 4 → c ≤ 4 → used r c a ≡ B) → m ≡ as_matrix (where_sized (shaped r c) (used r c a))
    → m ≡ as_matrix (where_sized (shaped r c) B)
part_is r c a p e = e ∙ ap as_matrix (sized_ext (shaped r c) (λ h. let s = sizes_of r c h in p (bounds_of r s.rows).most (bounds_of c s.cols).most))

-- as many rows as columns
pub shaped-square : (n : ℕ) → shaped n n ≡ sized n
unfolding shaped
shaped-square n = and_self (sized n)

-- a cell of the used part is one of the array
pub place_given : (r c i j : ℕ) {s u : Size} {o : Answer (Size × Size)} → o ≡ where_sized (inside r c i j) (size_of r, size_of c) → o ≡ Ok (s, u) → (i < 4) × (j < 4)
place_given r c i j p q =
    let s = inside-sizes r c i j (inside_given r c i j p q).passed in
    (le_trans s.row (bounds_of r s.sizes.rows).most, le_trans s.col (bounds_of c s.sizes.cols).most)
