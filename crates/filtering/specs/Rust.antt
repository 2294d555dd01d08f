-- Numbers that the running Rust gave, at two states and two measurements: what a definition computes is bit for bit that. Definitions only.
use Rattle.std.specs.Prelude.{◌≡◌, true, false, [], ◌∷◌, pos, negsuc, Float, Err}
use Rattle.std.specs.Float.{fin}
use Rattle.answer.specs.declared.Refusal.TheVariants.{NotPositiveDefinite}
use Rattle.answer.specs.Outcome.{this, done}
use Rattle.algebra.specs.Matrix.{Vector, Matrix, two_by_two}
use Rattle.algebra.specs.Values.{n0, n1, n2, −2, ½, ¼, ¾}
use Rattle.filtering.specs.Filter.{Motion}
use Rattle.filtering.specs.Information as Information
use Rattle.filtering.specs.SquareRoot as SquareRoot
use Rattle.filtering.specs.SquareRoot.{factored}
use Rattle.filtering.specs.Cases.{omega}

abbrev 1½ : Float
1½ = fin false 3 (negsuc 0)

abbrev −¼ : Float
−¼ = fin true 1 (negsuc 1)

abbrev motion : Motion
motion = record { n = 2; i = 1; a = two_by_two n1 ½ n0 n1; b = (½ ∷ []) ∷ (n1 ∷ []) ∷ []; q = two_by_two ½ ¼ ¼ ¾ }

abbrev H : Matrix
H = two_by_two n1 ½ ¼ n1

abbrev z : Vector
z = 1½ ∷ −¼ ∷ []

abbrev start : SquareRoot.Factored
start = factored (n1 ∷ n2 ∷ []) (two_by_two n2 n0 ½ 1½)

abbrev info : Information.Information
info = omega (two_by_two n2 ½ ½ n1) (n1 ∷ fin true 3 (pos 0) ∷ [])

pub record Rust : Type 0 where
  pub root-predict : SquareRoot.predict motion (¼ ∷ []) start
      ≡ done tt (factored (fin false 17 (negsuc 2) ∷ fin false 9 (negsuc 1) ∷ [])
      (two_by_two (fin false 5572920213460051 (negsuc 50)) n0 (fin false 4549322623232695 (negsuc 51)) (fin false 6724692920989859 (negsuc 51))))
  pub root-update : SquareRoot.update (record { n = 2; m = 2; h = H; r = ½ ∷ ¾ ∷ [] }) z start
      ≡ done (fin true 1 (negsuc 0) ∷ fin true 4982705970707783 (negsuc 50) ∷ [])
      (factored (fin false 2242562145580309 (negsuc 50) ∷ fin true 37924937304145 (negsuc 47) ∷ [])
      (two_by_two (fin false 6062372609594377 (negsuc 52)) n0 (fin true 5608999728140023 (negsuc 53)) (fin false 1192858258302019 (negsuc 49))))
  -- of the second component's downdate the first column is rotated, and the second fails: the state is updated by both components
  pub root-half : SquareRoot.update (record { n = 2; m = 2; h = two_by_two n1 n0 −2 −2; r = ½ ∷ n0 ∷ [] }) z (factored (n1 ∷ n2 ∷ []) (two_by_two n1 n0 −2 n1))
      ≡ record {
        told = Err NotPositiveDefinite;
        left = this (factored (fin false 8169650328237311 (negsuc 50) ∷ fin true 3944087675763327 (negsuc 49) ∷ [])
            (two_by_two (fin false 5089540134682839 (negsuc 54)) n0 (fin true 2544770067341425 (negsuc 53)) (fin false 5364179867777333 (negsuc 54))));
      }
  pub information-predict : Information.predict motion (¼ ∷ []) info
      ≡ done tt (omega (two_by_two (fin false 2448110566673193 (negsuc 50)) (fin true 1385722962267845 (negsuc 51)) (fin true 1385722962267845 (negsuc 51)) (fin false 1385722962267845 (negsuc 50)))
      (fin false 6628374836181191 (negsuc 52) ∷ fin true 1147551828128059 (negsuc 48) ∷ []))
  pub information-update : Information.update (record { n = 2; m = 2; h = H; r = two_by_two 1½ ¼ ¼ n2 }) z info
      ≡ done (fin false 5431012620544815 (negsuc 51) ∷ fin false 272063959252245 (negsuc 46) ∷ [])
      (omega (two_by_two (fin false 6012784608882949 (negsuc 50)) (fin false 491084001920719 (negsuc 48)) (fin false 491084001920719 (negsuc 48)) (fin false 3593297575029651 (negsuc 50)))
      (fin false 4455688993036767 (negsuc 50) ∷ fin true 769564563985517 (negsuc 47) ∷ []))
