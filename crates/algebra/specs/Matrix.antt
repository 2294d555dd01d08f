-- Vectors and matrices of any size, as lists and as lists of rows; Golub and Van Loan, chapter 1. Definitions only.
-- r, c and the like are sizes; a cell outside them is never read.
use Rattle.std.specs.Prelude.{ℕ, zero, suc, Bool, true, ◌&&◌, cond, List, [], ◌∷◌, get_or, eqb, Float}
use Rattle.std.specs.Float.{nan}
use Rattle.std.specs.Float.Ieee.{eq, neg}
use Rattle.root.specs.Root.{root}
use Rattle.scalar.specs.Number.{◌⊕◌, ◌⊖◌, ◌⊗◌, +0, one}
use Rattle.answer.specs.Table.{table}

abbrev pub Vector : Type 0
Vector = List Float

abbrev pub Matrix : Type 0
Matrix = List Vector

-- component i; row i; the cell in row i, column j
abbrev pub at : Vector → ℕ → Float
at v i = get_or v i nan

abbrev pub row : Matrix → ℕ → Vector
row A i = get_or A i []

abbrev pub cell : Matrix → ℕ → ℕ → Float
cell A i j = at (row A i) j

-- the matrix of r rows and c columns with f i j in row i, column j
abbrev pub mat : ℕ → ℕ → (ℕ → ℕ → Float) → Matrix
mat r c f = table r (λ i. table c (λ j. f i j))

-- matrices of the sizes 1 and 2, written out
abbrev pub one_by_one : Float → Matrix
one_by_one x = (x ∷ []) ∷ []

abbrev pub two_by_two : Float → Float → Float → Float → Matrix
two_by_two a b c d = (a ∷ b ∷ []) ∷ (c ∷ d ∷ []) ∷ []

-- ---- sums: each rounds once a term, from left to right

-- s + f 0 + f 1 and so on, n terms
unfoldable pub sum_from : Float → ℕ → (ℕ → Float) → Float
sum_from s zero f = s
sum_from s (suc n) f = sum_from s n f ⊕ f n

-- a sum starts at +0
abbrev pub sum_of : ℕ → (ℕ → Float) → Float
sum_of n f = sum_from +0 n f

-- ---- vectors
unfoldable pub vec_add : ℕ → Vector → Vector → Vector
vec_add n v w = table n (λ i. at v i ⊕ at w i)

unfoldable pub vec_sub : ℕ → Vector → Vector → Vector
vec_sub n v w = table n (λ i. at v i ⊖ at w i)

unfoldable pub vec_scale : ℕ → Vector → Float → Vector
vec_scale n v s = table n (λ i. at v i ⊗ s)

unfoldable pub dot : ℕ → Vector → Vector → Float
dot n v w = sum_of n (λ i. at v i ⊗ at w i)

unfoldable pub vec_norm : ℕ → Vector → Float
vec_norm n v = root (dot n v v)

-- ---- matrices
unfoldable pub filled : ℕ → ℕ → Float → Matrix
filled r c x = mat r c (λ i j. x)

unfoldable pub zeros : ℕ → ℕ → Matrix
zeros r c = filled r c +0

unfoldable pub identity : ℕ → Matrix
identity n = mat n n (λ i j. cond (eqb i j) one +0)

-- A with x in row i, column j
unfoldable pub set_cell : ℕ → ℕ → ℕ → ℕ → Float → Matrix → Matrix
set_cell r c i j x A = mat r c (λ p q. cond (eqb p i && eqb q j) x (cell A p q))

-- from r rows and c columns to c rows and r columns
unfoldable pub transpose : ℕ → ℕ → Matrix → Matrix
transpose r c A = mat c r (λ i j. cell A j i)

unfoldable pub add : ℕ → ℕ → Matrix → Matrix → Matrix
add r c A B = mat r c (λ i j. cell A i j ⊕ cell B i j)

unfoldable pub sub : ℕ → ℕ → Matrix → Matrix → Matrix
sub r c A B = mat r c (λ i j. cell A i j ⊖ cell B i j)

unfoldable pub scale : ℕ → ℕ → Matrix → Float → Matrix
scale r c A s = mat r c (λ i j. cell A i j ⊗ s)

-- times -1: a product, so the sign of a NaN or of a zero is that of the product
unfoldable pub negated : ℕ → ℕ → Matrix → Matrix
negated r c A = scale r c A (neg one)

-- r × k times k × c
unfoldable pub mul : ℕ → ℕ → ℕ → Matrix → Matrix → Matrix
mul r k c A B = mat r c (λ i j. sum_of k (λ t. cell A i t ⊗ cell B t j))

-- r × c times a vector of c components
unfoldable pub matvec : ℕ → ℕ → Matrix → Vector → Vector
matvec r c A v = table r (λ i. sum_of c (λ j. cell A i j ⊗ at v j))

-- v × transposed w
unfoldable pub outer : ℕ → ℕ → Vector → Vector → Matrix
outer r c v w = mat r c (λ i j. at v i ⊗ at w j)

unfoldable pub trace : ℕ → Matrix → Float
trace n A = sum_of n (λ i. cell A i i)

-- the sum of the squares of all cells, row after row
unfoldable pub squares : ℕ → ℕ → Matrix → Float
squares zero c A = +0
squares (suc r) c A = sum_from (squares r c A) c (λ j. cell A r j ⊗ cell A r j)

unfoldable pub frob_norm : ℕ → ℕ → Matrix → Float
frob_norm r c A = root (squares r c A)

-- f 0, f 1 and so on, n of them, all hold
unfoldable pub every : ℕ → (ℕ → Bool) → Bool
every zero f = true
every (suc n) f = every n f && f n

-- Rust's == on matrices: -0 equals +0, and a NaN equals nothing
unfoldable pub equal : ℕ → ℕ → Matrix → Matrix → Bool
equal r c A B = every r (λ i. every c (λ j. eq (cell A i j) (cell B i j)))
