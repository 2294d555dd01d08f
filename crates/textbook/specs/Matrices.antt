-- Matrices in any arithmetic, as lists of rows, and the relations that the textbook states of them. Definitions only.
use Rattle.std.specs.Prelude.{◌≡◌, ℕ, zero, suc, ◌≤◌, ◌<◌, cond, List, [], get_or, eqb}
use Rattle.answer.specs.Table.{table}
use Rattle.textbook.specs.Arithmetic.{Arithmetic}

module _ (N : Arithmetic) where
  abbrev pub Vec : Type 0
  Vec = List N.Num

  abbrev pub Mat : Type 0
  Mat = List Vec

  abbrev pub at : Vec → ℕ → N.Num
  at v i = get_or v i N.none

  abbrev pub row : Mat → ℕ → Vec
  row A i = get_or A i []

  abbrev pub cell : Mat → ℕ → ℕ → N.Num
  cell A i j = at (row A i) j

  abbrev pub mat : ℕ → ℕ → (ℕ → ℕ → N.Num) → Mat
  mat r c f = table r (λ i. table c (λ j. f i j))

  unfoldable pub sum_of : ℕ → (ℕ → N.Num) → N.Num
  sum_of zero f = N.nought
  sum_of (suc n) f = N.plus (sum_of n f) (f n)

  unfoldable pub dot : ℕ → Vec → Vec → N.Num
  dot n v w = sum_of n (λ i. N.times (at v i) (at w i))

  unfoldable pub vec_add : ℕ → Vec → Vec → Vec
  vec_add n v w = table n (λ i. N.plus (at v i) (at w i))

  unfoldable pub vec_sub : ℕ → Vec → Vec → Vec
  vec_sub n v w = table n (λ i. N.minus (at v i) (at w i))

  unfoldable pub identity : ℕ → Mat
  identity n = mat n n (λ i j. cond (eqb i j) N.unit N.nought)

  unfoldable pub transpose : ℕ → ℕ → Mat → Mat
  transpose r c A = mat c r (λ i j. cell A j i)

  unfoldable pub add : ℕ → ℕ → Mat → Mat → Mat
  add r c A B = mat r c (λ i j. N.plus (cell A i j) (cell B i j))

  unfoldable pub sub : ℕ → ℕ → Mat → Mat → Mat
  sub r c A B = mat r c (λ i j. N.minus (cell A i j) (cell B i j))

  -- r × k times k × c
  unfoldable pub mul : ℕ → ℕ → ℕ → Mat → Mat → Mat
  mul r k c A B = mat r c (λ i j. sum_of k (λ t. N.times (cell A i t) (cell B t j)))

  -- r × c times a vector of c components
  unfoldable pub matvec : ℕ → ℕ → Mat → Vec → Vec
  matvec r c A v = table r (λ i. sum_of c (λ j. N.times (cell A i j) (at v j)))

  -- ---- relations

  -- B is the inverse of A, both n × n
  pub record Inverse (n : ℕ) (A B : Mat) : Type 0 where
    pub before : mul n n n B A ≡ identity n
    pub after : mul n n n A B ≡ identity n

  -- nothing right of the diagonal
  abbrev pub Lower : ℕ → Mat → Type 0
  Lower n L = (i j : ℕ) → i < j → j < n → cell L i j ≡ N.nought

  abbrev pub Symmetric : ℕ → Mat → Type 0
  Symmetric n A = (i j : ℕ) → i < n → j < n → cell A i j ≡ cell A j i

  -- no zero on the diagonal
  abbrev pub NonzeroDiagonal : ℕ → Mat → Type 0
  NonzeroDiagonal n L = (i : ℕ) → i < n → cell L i i ≡ N.nought → ⊥

  -- the cell of L × transposed L in row i, column j
  abbrev pub gram : ℕ → Mat → ℕ → ℕ → N.Num
  gram n L i j = cell (mul n n n L (transpose n n L)) i j

  -- L is Cholesky's factor of A: on A's lower triangle, which alone is read; and everywhere for a symmetric A
  pub record Factor (n : ℕ) (A L : Mat) : Type 0 where
    pub lower : Lower n L
    pub below : (i j : ℕ) → i < n → j ≤ i → gram n L i j ≡ cell A i j
    pub everywhere : Symmetric n A → (i j : ℕ) → i < n → j < n → gram n L i j ≡ cell A i j

  -- L' is the factor of L × transposed L - v × transposed v
  pub record Downdated (n : ℕ) (L : Mat) (v : Vec) (L' : Mat) : Type 0 where
    pub lower : Lower n L'
    pub product : (i j : ℕ) → i < n → j < n → gram n L' i j ≡ N.minus (gram n L i j) (N.times (at v i) (at v j))
