-- The examples, computed. Assumes nothing.
use mathlib.Core.Path.{◌≡◌, refl, sym, ap, ◌∙◌}
use mathlib.Core.List.{[], ◌∷◌}
use Prim.Native.Nat.{ℕ}
use native.Mathlib.Omega.{arith}
use lib.IntN.{nat_abs}
use Rattle.std.specs.Prelude.{Ok, Err}
use Rattle.root.specs.Root.{isqrt}
use Rattle.answer.specs.declared.Refusal.TheVariants.{NotPositiveDefinite}
use Rattle.answer.specs.Outcome.{done}
use Rattle.textbook.specs.Matrices as M
use Rattle.textbook.specs.Elimination as E
use Rattle.textbook.specs.Factor as C
use Rattle.textbook.specs.Downdate as D
use Rattle.textbook.specs.Linear as Li
use Rattle.textbook.specs.Information as In
use Rattle.textbook.specs.Fractions.{fractions, divisor, lowest}
use Rattle.textbook.specs.Example.{+, −, half, one_by_one, two_by_two, estimate, information, squared, wanted, by_rust, Example}

wanted_is : wanted ≡ two_by_two (+ 16) (− 60) (− 60) (+ 3825)
unfolding divisor lowest M.sum_of M.mul M.transpose M.sub
wanted_is = refl

rust-squared : squared by_rust ≡ two_by_two (+ 16) (− 60) (− 60) (+ 4194)
unfolding divisor lowest M.sum_of M.mul M.transpose
rust-squared = refl

last : M.Mat fractions → ℕ
last A = nat_abs (M.cell fractions A 1 1).above

other : two_by_two (+ 16) (− 60) (− 60) (+ 4194) ≡ two_by_two (+ 16) (− 60) (− 60) (+ 3825) → ⊥
unfolding last
other e = let f : ◌≡◌ {A = ℕ} 4194 3825 = ap last e in omega arith

factor : C.cholesky fractions 2 (two_by_two (+ 4) (+ 2) (+ 2) (+ 5)) ≡ Ok (two_by_two (+ 2) (+ 0) (+ 1) (+ 2))
unfolding divisor lowest isqrt M.sum_of M.dot C.diagonal_of C.left_cells C.factor_row C.factor_rows C.cholesky
factor = refl

no_factor : C.cholesky fractions 2 (two_by_two (+ 1) (+ 1) (+ 1) (+ 1)) ≡ Err NotPositiveDefinite
unfolding divisor lowest isqrt M.sum_of M.dot C.diagonal_of C.left_cells C.factor_row C.factor_rows C.cholesky
no_factor = refl

linear-update : Li.update fractions 1 1 (one_by_one (+ 1)) (one_by_one (+ 2)) (+ 5 ∷ []) (estimate (+ 1) (+ 2))
    ≡ done (+ 4 ∷ []) (estimate (+ 3) (+ 1))
unfolding divisor lowest M.sum_of M.mul M.transpose M.add M.sub M.identity M.matvec M.vec_add M.vec_sub
    E.pivot_row E.swapped E.scaled_row E.reduced E.exchanged E.cleared E.column E.columns E.inv
    Li.propagated Li.innovation Li.gain Li.corrected_state Li.corrected_covariance Li.corrected Li.update
linear-update = refl

information-update : In.update fractions 1 1 (one_by_one (+ 1)) (one_by_one (+ 2)) (+ 5 ∷ []) (information half half)
    ≡ done (+ 2 ∷ []) (information (+ 1) (+ 3))
unfolding divisor lowest M.sum_of M.mul M.transpose M.add M.identity M.matvec M.vec_add M.vec_sub
    E.pivot_row E.swapped E.scaled_row E.reduced E.exchanged E.cleared E.column E.columns E.inv
    Li.innovation In.informed_matrix In.informed_vector In.informed In.covariance In.state In.update
information-update = refl

pub example : Example
unfolding divisor lowest isqrt M.sum_of M.mul M.transpose M.sub
    D.square D.turned_diagonal D.turned_cell D.turned_factor D.turned_vector D.rotate D.rotated
example = record {
  factor = factor;
  no_factor = no_factor;
  linear-update = linear-update;
  information-update = information-update;
  wanted_is = wanted_is;
  textbook-leaves = refl;
  textbook-squared = refl;
  rust-leaves = refl;
  rust-squared = rust-squared;
  rust_differs = λ e. other (sym rust-squared ∙ e ∙ wanted_is);
}
