-- Worked in fractions: a factor, an update of each filter, and one downdate by both forms, of which the Rust's does not downdate. Definitions only.
use Rattle.std.specs.Prelude.{◌≡◌, [], ◌∷◌, ℕ, pos, neg_ℤ, Ok, Err}
use Rattle.answer.specs.declared.Refusal.TheVariants.{NotPositiveDefinite}
use Rattle.answer.specs.Outcome.{this, done}
use Rattle.textbook.specs.Matrices.{Vec, Mat, at, mat, mul, transpose, sub}
use Rattle.textbook.specs.Factor.{cholesky}
use Rattle.textbook.specs.Downdate.{textbook, rust, rotated}
use Rattle.textbook.specs.Linear as Linear
use Rattle.textbook.specs.Information as Information
use Rattle.textbook.specs.Fractions.{Fraction, whole, fractions}

abbrev pub + : ℕ → Fraction
+ k = whole (pos k)

abbrev pub − : ℕ → Fraction
− k = whole (neg_ℤ (pos k))

abbrev pub two_by_two : Fraction → Fraction → Fraction → Fraction → Mat fractions
two_by_two a b c d = (a ∷ b ∷ []) ∷ (c ∷ d ∷ []) ∷ []

abbrev pub one_by_one : Fraction → Mat fractions
one_by_one a = (a ∷ []) ∷ []

abbrev pub half : Fraction
half = record { above = pos 1; below = 2 }

abbrev pub estimate : Fraction → Fraction → Linear.Estimate fractions
estimate x p = record { state = x ∷ []; covariance = one_by_one p }

abbrev pub information : Fraction → Fraction → Information.Information fractions
information w v = record { matrix = one_by_one w; vector = v ∷ [] }

-- ---- the downdate of L by v
abbrev pub L : Mat fractions
L = two_by_two (+ 5) (+ 0) (+ 0) (+ 65)

abbrev pub v : Vec fractions
v = + 3 ∷ + 20 ∷ []

-- M × transposed M
abbrev pub squared : Mat fractions → Mat fractions
squared M = mul fractions 2 2 2 M (transpose fractions 2 2 M)

-- L × transposed L - v × transposed v, of which a downdate is to give the factor
abbrev pub wanted : Mat fractions
wanted = sub fractions 2 2 (squared L) (mat fractions 2 2 (λ i j. fractions.times (at fractions v i) (at fractions v j)))

-- what the two forms leave
abbrev pub by_textbook : Mat fractions
by_textbook = two_by_two (+ 4) (+ 0) (− 15) (+ 60)

abbrev pub by_rust : Mat fractions
by_rust = two_by_two (+ 4) (+ 0) (− 15) (+ 63)

pub record Example : Type 0 where
  -- a factor; and none where nothing is left of a diagonal
  pub factor : cholesky fractions 2 (two_by_two (+ 4) (+ 2) (+ 2) (+ 5)) ≡ Ok (two_by_two (+ 2) (+ 0) (+ 1) (+ 2))
  pub no_factor : cholesky fractions 2 (two_by_two (+ 1) (+ 1) (+ 1) (+ 1)) ≡ Err NotPositiveDefinite
  -- 5 is measured where the state is 1, both variances 2: the state becomes 3 and its variance 1
  pub linear-update : Linear.update fractions 1 1 (one_by_one (+ 1)) (one_by_one (+ 2)) (+ 5 ∷ []) (estimate (+ 1) (+ 2))
      ≡ done (+ 4 ∷ []) (estimate (+ 3) (+ 1))
  -- the information of that, 1/2 and 1/2, becomes 1 and 3; what is told is 5 less the new state
  pub information-update : Information.update fractions 1 1 (one_by_one (+ 1)) (one_by_one (+ 2)) (+ 5 ∷ []) (information half half)
      ≡ done (+ 2 ∷ []) (information (+ 1) (+ 3))
  -- the textbook's downdate leaves the factor of what is wanted
  pub wanted_is : wanted ≡ two_by_two (+ 16) (− 60) (− 60) (+ 3825)
  pub textbook-leaves : (rotated fractions (textbook fractions) 2 2 L v).left ≡ this by_textbook
  pub textbook-squared : squared by_textbook ≡ wanted
  -- the Rust's leaves the factor of another matrix
  pub rust-leaves : (rotated fractions (rust fractions) 2 2 L v).left ≡ this by_rust
  pub rust-squared : squared by_rust ≡ two_by_two (+ 16) (− 60) (− 60) (+ 4194)
  pub rust_differs : squared by_rust ≡ wanted → ⊥
