-- The worked cases of the filters: those marked for proof in document 01, and others that settle what a refusal leaves. Definitions only.
use Rattle.std.specs.Prelude.{◌≡◌, true, false, [], ◌∷◌, ◌++◌, map, pos, negsuc, Float, Ok, Err}
use Rattle.std.specs.Float.{fin, nan, binary64}
use Rattle.std.specs.Float.Ieee.{to_bits}
use Rattle.answer.specs.declared.Refusal.TheVariants.{SingularMatrix, NotPositiveDefinite}
use Rattle.answer.specs.Outcome.{Outcome, unchanged, this, onward, done}
use Rattle.algebra.specs.Matrix.{Vector, Matrix, one_by_one, two_by_two}
use Rattle.algebra.specs.Values.{n0, n1, n2, n3, n4, n5}
use Rattle.filtering.specs.Filter.{Motion, Sensor, estimate}
use Rattle.filtering.specs.Linear as Linear
use Rattle.filtering.specs.Information as Information
use Rattle.filtering.specs.Information.{Information}
use Rattle.filtering.specs.SquareRoot as SquareRoot
use Rattle.filtering.specs.SquareRoot.{factored}

abbrev pub n32 : Float
n32 = fin false 1 (pos 5)

abbrev pub n300 : Float
n300 = fin false 75 (pos 2)

abbrev pub n400 : Float
n400 = fin false 25 (pos 4)

abbrev pub n768 : Float
n768 = fin false 3 (pos 8)

abbrev pub n786 : Float
n786 = fin false 393 (pos 1)

abbrev pub n4288 : Float
n4288 = fin false 67 (pos 6)

-- 307.03125 and 2874.734375
abbrev pub speed : Float
speed = fin false 9825 (negsuc 4)

abbrev pub speed_variance : Float
speed_variance = fin false 183983 (negsuc 5)

abbrev −9 : Float
−9 = fin true 9 (pos 0)

abbrev n9 : Float
n9 = fin false 9 (pos 0)

abbrev n25 : Float
n25 = fin false 25 (pos 0)

-- the number nearest 2.4
abbrev n2·4 : Float
n2·4 = fin false 5404319552844595 (negsuc 50)

-- two states, measured once
abbrev sensor : Matrix → Matrix → Sensor Matrix
sensor H R = record { n = 2; m = 1; h = H; r = R }

abbrev pub omega : Matrix → Vector → Information
omega W v = record { matrix = W; vector = v }

-- one state, measured once with this deviation
abbrev channel : Matrix → Vector → Sensor Vector
channel H r = record { n = 1; m = 1; h = H; r = r }

-- one state that doubles, with noise -9
abbrev doubling : Motion
doubling = record { n = 1; i = 1; a = one_by_one n2; b = one_by_one n1; q = one_by_one −9 }

pub record Cases : Type 0 where
  pub bits_of_tracker : map (to_bits binary64) (n32 ∷ n300 ∷ n400 ∷ n768 ∷ n786 ∷ n4288 ∷ speed ∷ speed_variance ∷ [])
      ≡ 0x4040_0000_0000_0000 ∷ 0x4072_c000_0000_0000 ∷ 0x4079_0000_0000_0000 ∷ 0x4088_0000_0000_0000 ∷ 0x4088_9000_0000_0000
      ∷ 0x40b0_c000_0000_0000 ∷ 0x4073_3080_0000_0000 ∷ 0x40a6_7578_0000_0000 ∷ []
  -- the tracker: step 1, noises 4288 and 32, one predict, an update with 400
  pub tracking : onward Linear.at_start (Linear.predict (Linear.tracker_motion n1 n4288) (n0 ∷ []) Linear.at_start) (λ e t. Linear.update (Linear.tracker_sensor n32) (n400 ∷ []) e)
      ≡ done (n400 ∷ []) (estimate (n300 ∷ speed ∷ []) (two_by_two n768 n786 n786 speed_variance))
  -- linear: an innovation covariance that is rejected changes nothing
  pub linear-refused : Linear.update (record { n = 1; m = 1; h = one_by_one n1; r = one_by_one n0 }) (n3 ∷ []) (estimate (n5 ∷ []) (one_by_one n0))
      ≡ record { told = Err SingularMatrix; left = unchanged }
  -- information: the new matrix is rejected, and keeps the addition; noise that cannot be inverted changes nothing
  pub information_added : Information.update (sensor ((n1 ∷ n0 ∷ []) ∷ []) (one_by_one n1)) (n3 ∷ []) (omega (two_by_two n0 n0 n0 n0) (n0 ∷ n0 ∷ []))
      ≡ record { told = Err SingularMatrix; left = this (omega (two_by_two n1 n0 n0 n0) (n3 ∷ n0 ∷ [])) }
  pub information-noise : Information.update (sensor ((n1 ∷ n0 ∷ []) ∷ []) (one_by_one n0)) (n3 ∷ []) (omega (two_by_two n0 n0 n0 n0) (n0 ∷ n0 ∷ []))
      ≡ record { told = Err SingularMatrix; left = unchanged }
  -- the innovation is from the state after: 4 less 2, where the state before it was 0
  pub information-after : Information.update (record { n = 1; m = 1; h = one_by_one n1; r = one_by_one n1 }) (n4 ∷ []) (omega (one_by_one n1) (n0 ∷ []))
      ≡ done (n2 ∷ []) (omega (one_by_one n2) (n4 ∷ []))
  -- square-root: the state is updated, and the first column fails; the new covariance is rejected, and the state is the new one
  pub root-downdate : SquareRoot.update (channel (one_by_one n1) (n0 ∷ [])) (n5 ∷ []) (factored (n0 ∷ []) (one_by_one n1))
      ≡ record { told = Err NotPositiveDefinite; left = this (factored (n5 ∷ []) (one_by_one n1)) }
  pub root-predict : SquareRoot.predict doubling (n0 ∷ []) (factored (n2 ∷ []) (one_by_one n1))
      ≡ record { told = Err NotPositiveDefinite; left = this (factored (n4 ∷ []) (one_by_one n1)) }
  -- no variance: nothing changes; with a second component that has none, the first one stays
  pub root-variance : SquareRoot.update (channel (one_by_one n0) (n0 ∷ [])) (n3 ∷ []) (factored (n5 ∷ []) (one_by_one n1)) ≡ record { told = Err SingularMatrix; left = unchanged }
  pub root-second : SquareRoot.update (record { n = 1; m = 2; h = one_by_one n0 ++ one_by_one n0; r = n1 ∷ n0 ∷ [] }) (n3 ∷ n4 ∷ []) (factored (n5 ∷ []) (one_by_one n1))
      ≡ record { told = Err SingularMatrix; left = this (factored (n5 ∷ []) (one_by_one n1)) }
  -- the first component moves the state to 9 and the factor to 2.4; the second has no variance
  pub root-taken : SquareRoot.update (record { n = 1; m = 2; h = one_by_one n1 ++ one_by_one n0; r = n4 ∷ n0 ∷ [] }) (n25 ∷ n0 ∷ []) (factored (n0 ∷ []) (one_by_one n3))
      ≡ record { told = Err SingularMatrix; left = this (factored (n9 ∷ []) (one_by_one n2·4)) }
  -- a NaN passes the test of the variance, and that of the diagonal
  pub root_nan : SquareRoot.update (channel (one_by_one n1) (nan ∷ [])) (n3 ∷ []) (factored (n0 ∷ []) (one_by_one n1)) ≡ done (n3 ∷ []) (factored (nan ∷ []) (one_by_one nan))
