-- Sizes, 1 to 4: the code's type of them, and the tests of the numbers that a call is given for sizes. Definitions only.
use Rattle.std.specs.Prelude.{ℕ, zero, suc, Bool, ◌&&◌, List, leb, ltb, eqb, Float}
use Rattle.algebra.specs.Matrix.{Vector, Matrix}
use Rattle.algebra.specs.Array.{cut, used}
use Rattle.sizes.specs.declared.Size.{Size}
use Rattle.sizes.specs.declared.Size.TheVariants.{One, Two, Three, Four}

abbrev pub count : Size → ℕ
count One = 1
count Two = 2
count Three = 3
count Four = 4

-- the size of a number; a caller has tested that it is one
abbrev pub size_of : ℕ → Size
size_of zero = One
size_of (suc zero) = One
size_of (suc (suc zero)) = Two
size_of (suc (suc (suc zero))) = Three
size_of (suc (suc (suc (suc n)))) = Four

-- the used part of an array, and of an array of rows
abbrev pub front : Size → List Float → Vector
front n v = cut (count n) v

abbrev pub part : Size → Size → List (List Float) → Matrix
part r c a = used (count r) (count c) a

-- ---- the tests

-- a size is 1 to 4
unfoldable pub sized : ℕ → Bool
sized n = leb 1 n && leb n 4

-- r rows and c columns
unfoldable pub shaped : ℕ → ℕ → Bool
shaped r c = sized r && sized c

-- both matrices have these sizes
unfoldable pub alike : ℕ → ℕ → ℕ → ℕ → Bool
alike ar ac br bc = shaped ar ac && (eqb ar br && eqb ac bc)

-- the first has as many columns as the second has rows
unfoldable pub chained : ℕ → ℕ → ℕ → ℕ → Bool
chained ar ac br bc = shaped ar ac && (shaped br bc && eqb ac br)

-- row i and column j lie in the used part
unfoldable pub inside : ℕ → ℕ → ℕ → ℕ → Bool
inside r c i j = shaped r c && (ltb i r && ltb j c)

-- both vectors have this many components
unfoldable pub paired : ℕ → ℕ → Bool
paired n m = sized n && eqb n m

-- r rows and c columns, and as many columns as the vector has components
unfoldable pub applicable : ℕ → ℕ → ℕ → Bool
applicable r c n = shaped r c && eqb c n
