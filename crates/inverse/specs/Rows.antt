-- What the code's operations on rows leave, m', in an array of rows that they are lent, m. Definitions only.
use Rattle.std.specs.Prelude.{◌≡◌, List, ℕ, suc, ◌-◌, ◌≤◌, ◌<◌, length, set, Float, Ok, Err}
use Rattle.answer.specs.Answer.{Answer}
use Rattle.algebra.specs.Matrix.{row, vec_scale}
use Rattle.algebra.specs.Array.{cut, used}
use Rattle.algebra.specs.Inverse.{pivot_row, ◌beside◌, reduced, cleared, column}

abbrev pub Array : Type 0
Array = List (List Float)

pub record Swap (p q : ℕ) (m m' : Array) : Type 0 where
  pub is : m' ≡ set (set m p (row m q)) q (row m p)

-- all four columns
pub record Scale (c : ℕ) (s : Float) (m m' : Array) : Type 0 where
  pub is : m' ≡ set m c (vec_scale 4 (row m c) s)

-- the used part, of whatever size n
pub record Reduce (c : ℕ) (f : List Float) (m m' : Array) : Type 0 where
  pub is : (n : ℕ) → n ≤ 4 → c < n → used n n m' ≡ reduced n c (cut n f) (used n n m)
  pub long : length m' ≡ 4

-- both arrays, from l and r to l' and r': the pivot of column c, among n rows, comes to the diagonal
pub record Bring (n c : ℕ) (l r l' r' : Array) : Type 0 where
  pub left : Swap (pivot_row l c (n - suc c)) c l l'
  pub right : Swap (pivot_row l c (n - suc c)) c r r'
  pub left_long : length l' ≡ 4
  pub right_long : length r' ≡ 4

-- and from there on column c is cleared
pub record Clear (c : ℕ) (l r l' r' : Array) : Type 0 where
  pub is : (n : ℕ) → n ≤ 4 → c < n → (used n n l' beside used n n r') ≡ cleared n c (used n n l beside used n n r)
  pub left : length l' ≡ 4
  pub right : length r' ≡ 4

-- and the whole of column c, by what it tells
abbrev pub Swept : ℕ → ℕ → Array → Array → Array → Array → Answer (Unit {0}) → Type 0
Swept n c l r l' r' (Err k) = column n c (used n n l beside used n n r) ≡ Err k
Swept n c l r l' r' (Ok u) = (column n c (used n n l beside used n n r) ≡ Ok (used n n l' beside used n n r')) × (length l' ≡ 4) × (length r' ≡ 4)
