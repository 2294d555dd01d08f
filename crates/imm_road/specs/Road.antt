-- Two models of one road, two states each, by their numbers. Definitions only.
use Rattle.std.specs.Prelude.{[], ◌∷◌, Float}
use Rattle.algebra.specs.Matrix.{Vector}
use Rattle.mixing.specs.Mixing.{Bank}
use Rattle.imm_steps.specs.Bank.{share_of}
use Rattle.road.specs.declared.Pair.{Pair}
use Rattle.road.specs.Road.{estimate_of}

-- the bank of two estimates and their probabilities; mixing reads no likelihood
abbrev pub bank_of : Pair → Pair → Float → Float → Bank
bank_of e f m n = record { estimates = estimate_of e ∷ estimate_of f ∷ []; likelihoods = []; probabilities = m ∷ n ∷ [] }

-- the weights in a model of the predicted probability c
abbrev pub shares_of : Float → Float → Float → Float → Float → Vector
shares_of s t m n c = share_of m s c ∷ share_of n t c ∷ []
