-- The worked cases of roots, matrices, inversion and Cholesky: those marked for proof in document 01, and others that settle a wrong turn. Definitions only.
use Rattle.std.specs.Prelude.{◌≡◌, true, false, [], ◌∷◌, map, Ok, Err}
use Rattle.std.specs.Float.{binary64, nan}
use Rattle.std.specs.Float.Ieee.{to_bits}
use Rattle.root.specs.Root.{root}
use Rattle.answer.specs.declared.Refusal.TheVariants.{SingularMatrix, NotPositiveDefinite}
use Rattle.algebra.specs.Matrix.{mul, one_by_one, two_by_two}
use Rattle.algebra.specs.Inverse.{limit, no_pivot, pivot_row, inv}
use Rattle.algebra.specs.Cholesky.{cholesky}
use Rattle.algebra.specs.Values.{−0, n0, n1, n2, n3, n4, n5, n9, −1, −2, ½, ¼, ¾, ⅓, −⅓, 1−⅓, least, root_of_least, √2, limit_of_pivots, before_limit}

pub record Cases : Type 0 where
  -- the numbers are what their names say, by their bits
  pub bits : map (to_bits binary64) (−0 ∷ n2 ∷ n4 ∷ least ∷ √2 ∷ [])
      ≡ 0x8000_0000_0000_0000 ∷ 0x4000_0000_0000_0000 ∷ 0x4010_0000_0000_0000 ∷ 1 ∷ 0x3ff6_a09e_667f_3bcd ∷ []
  pub bits-whole : map (to_bits binary64) (n0 ∷ n1 ∷ n3 ∷ n5 ∷ n9 ∷ −1 ∷ −2 ∷ [])
      ≡ 0 ∷ 0x3ff0_0000_0000_0000 ∷ 0x4008_0000_0000_0000 ∷ 0x4014_0000_0000_0000 ∷ 0x4022_0000_0000_0000 ∷ 0xbff0_0000_0000_0000 ∷ 0xc000_0000_0000_0000 ∷ []
  pub bits-parts : map (to_bits binary64) (½ ∷ ¼ ∷ ¾ ∷ ⅓ ∷ 1−⅓ ∷ limit_of_pivots ∷ before_limit ∷ [])
      ≡ 0x3fe0_0000_0000_0000 ∷ 0x3fd0_0000_0000_0000 ∷ 0x3fe8_0000_0000_0000 ∷ 0x3fd5_5555_5555_5555 ∷ 0x3fe5_5555_5555_5556 ∷ 0x3dee_8480_0000_0000 ∷ 0x3dee_847f_ffff_ffff ∷ []
  -- the square root
  pub root_of_4 : root n4 ≡ n2
  pub root_of_2 : root n2 ≡ √2
  pub root_of_smallest : root least ≡ root_of_least
  pub root_of_minus-zero : root −0 ≡ −0
  -- a product's sum starts at +0
  pub mul_of_minus-zero : mul 1 1 1 (one_by_one −0) (one_by_one n1) ≡ one_by_one n0
  -- the inverse: the rows change places; the second column has no pivot; a NaN is a pivot; of two rows of one magnitude the first is the
  -- pivot, and a row is multiplied by the pivot's reciprocal
  pub inv-turned : inv 2 (two_by_two n0 n2 n4 n0) ≡ Ok (two_by_two n0 ¼ ½ n0)
  pub inv_singular : inv 2 (two_by_two n1 n2 n2 n4) ≡ Err SingularMatrix
  pub inv_of_nan : inv 1 (one_by_one nan) ≡ Ok (one_by_one nan)
  pub inv-first : inv 2 (two_by_two n1 n1 n1 −2) ≡ Ok (two_by_two 1−⅓ ⅓ ⅓ −⅓)
  -- its pivot: a NaN below the diagonal never wins, and one on it is never beaten
  pub pivot_nan_below : pivot_row (two_by_two n1 n0 nan n0) 0 1 ≡ 0
  pub pivot_nan_above : pivot_row (two_by_two nan n0 n1 n0) 0 1 ≡ 0
  -- a magnitude of just the limit is no refusal, and the number before it is one
  pub limit_is : limit ≡ limit_of_pivots
  pub pivot_at_limit : no_pivot limit_of_pivots ≡ false
  pub pivot-below-limit : no_pivot before_limit ≡ true
  -- Cholesky's factor: the upper triangle, 9, is not read; what is left of a diagonal is zero; a NaN passes; -0 less a sum from +0 on stays -0
  pub cholesky-lower : cholesky 2 (two_by_two n4 n9 n2 n5) ≡ Ok (two_by_two n2 n0 n1 n2)
  pub cholesky_not_positive : cholesky 2 (two_by_two n1 n0 n1 n1) ≡ Err NotPositiveDefinite
  pub cholesky_of_nan : cholesky 1 (one_by_one nan) ≡ Ok (one_by_one nan)
  pub cholesky-sum : cholesky 3 ((n1 ∷ nan ∷ nan ∷ []) ∷ (−1 ∷ n2 ∷ nan ∷ []) ∷ (n0 ∷ −0 ∷ n1 ∷ []) ∷ [])
      ≡ Ok ((n1 ∷ n0 ∷ n0 ∷ []) ∷ (−1 ∷ n1 ∷ n0 ∷ []) ∷ (n0 ∷ −0 ∷ n1 ∷ []) ∷ [])
