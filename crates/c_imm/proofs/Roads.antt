-- Two models of one road in a slice: what is put back is the mixed bank. Assumes nothing.
use mathlib.Core.Path.{◌≡◌, refl, ap, ◌∙◌}
use mathlib.Core.List.{List, [], ◌∷◌, ◌++◌}
use Prim.Native.Nat.{ℕ, ◌+◌, ◌≤◌}
use native.Mathlib.Omega.{arith}
use lib.ListN.{length, get_or}
use lib.Ieee.{Float}
use Rattle.answer.specs.Table.{table}
use Rattle.algebra.specs.Matrix.{Vector, Matrix, at}
use Rattle.filtering.specs.Filter.{Estimate, estimate}
use Rattle.mixing.specs.Mixing.{weighted, mixed_covariance, mixed_estimate, mix_estimates}
use Rattle.layout.specs.Layout.{vector_at, matrix_at, joined, placed, put_at}
use Rattle.layout.proofs.Calls.{slice-put}
use Rattle.road.specs.declared.Pair.{Pair}
use Rattle.road.specs.declared.Two.{Two}
use Rattle.road.specs.Road.{matrix_of, estimate_of}
use Rattle.imm_road.specs.Road.{bank_of}
use Rattle.c_bank.specs.declared.places.Places.{Places}
use Rattle.c_bank.specs.Bank.{probabilities_place, estimate_at, bank_at, transition_at, with_estimates, with_bank, mixed_in}
use Rattle.c_bank.proofs.Banks.{Placed}

-- ---- the numbers of both models lie before the transition, and the probabilities behind it
pub record Inside (l : ℕ) (P : Places) : Type 0 where
  pub models : P.x + P.step + 6 ≤ P.transition
  pub transition : P.transition + 4 ≤ P.mu
  pub probabilities : P.mu + 2 ≤ l

pub inside : {m l : ℕ} {P : Places} → Placed 2 m 2 l P → Inside l P
inside g = record { models = omega (arith, g); transition = omega (arith, g); probabilities = omega (arith, g, g.whole.long) }

-- ---- mixing
aside-estimates : (T : Matrix) (E : List Estimate) (L M μ : Vector)
    → (mix_estimates 2 2 T (record { estimates = E; likelihoods = L; probabilities = μ })).estimates ≡ (mix_estimates 2 2 T (record { estimates = E; likelihoods = M; probabilities = μ })).estimates
unfolding mix_estimates mixed_estimate mixed_covariance weighted
aside-estimates T E L M μ = refl

aside-probabilities : (T : Matrix) (E : List Estimate) (L M μ : Vector)
    → (mix_estimates 2 2 T (record { estimates = E; likelihoods = L; probabilities = μ })).probabilities ≡ (mix_estimates 2 2 T (record { estimates = E; likelihoods = M; probabilities = μ })).probabilities
unfolding mix_estimates
aside-probabilities T E L M μ = refl

module _ (m : ℕ) (b : List Float) {P : Places} (G : Placed 2 m 2 (length b) P) {e f x y : Pair} {t : Two} {u v : Float}
    (first : estimate_of e ≡ estimate (vector_at 2 b P.x) (matrix_at 2 2 b (P.x + 2)))
    (second : estimate_of f ≡ estimate (vector_at 2 b (P.x + P.step)) (matrix_at 2 2 b (P.x + P.step + 2)))
    (transition : matrix_of t ≡ matrix_at 2 2 b P.transition)
    (s : bank_of x y u v ≡ mix_estimates 2 2 (matrix_of t) (bank_of e f (at b P.mu) (at b (P.mu + 1)))) where
  abbrev L : Vector
  L = (bank_at 2 m 2 b).likelihoods

  next : P.x + P.step ≡ 19
  next = omega (arith, G.x, G.step)

  held : bank_of x y u v ≡ mix_estimates 2 2 (transition_at 2 m 2 b) (record { estimates = table 2 (λ i. estimate_at 2 b i); likelihoods = []; probabilities = vector_at 2 b (probabilities_place 2 m 2) })
  held =
      let p0 : P.mu ≡ probabilities_place 2 m 2 + 0 = omega (arith, G.mu) in
      let p1 : P.mu + 1 ≡ probabilities_place 2 m 2 + 1 = omega (arith, G.mu) in
      let e0 : estimate_of e ≡ estimate_at 2 b 0 = first ∙ λ i. estimate (vector_at 2 b (G.x i)) (matrix_at 2 2 b (G.x i + 2)) in
      let e1 : estimate_of f ≡ estimate_at 2 b 1 = second ∙ λ i. estimate (vector_at 2 b (next i)) (matrix_at 2 2 b (next i + 2)) in
      let T : matrix_of t ≡ transition_at 2 m 2 b = transition ∙ ap (matrix_at 2 2 b) G.transition in
      s ∙ λ i. mix_estimates 2 2 (T i) (record { estimates = e0 i ∷ e1 i ∷ []; likelihoods = []; probabilities = at b (p0 i) ∷ at b (p1 i) ∷ [] })

  estimates_are : estimate_of x ∷ estimate_of y ∷ [] ≡ (mixed_in 2 m 2 b).estimates
  estimates_are = (λ i. (held i).estimates) ∙ aside-estimates (transition_at 2 m 2 b) (bank_at 2 m 2 b).estimates [] L (bank_at 2 m 2 b).probabilities

  probabilities_are : u ∷ v ∷ [] ≡ (mixed_in 2 m 2 b).probabilities
  probabilities_are = (λ i. (held i).probabilities) ∙ aside-probabilities (transition_at 2 m 2 b) (bank_at 2 m 2 b).estimates [] L (bank_at 2 m 2 b).probabilities

  pub roads_put : {b₁ b₂ b₃ : List Float} → P.mu + 2 ≤ length b₂
      → b₁ ≡ placed P.x ((estimate_of x).state ++ joined (estimate_of x).covariance) b
      → b₂ ≡ placed (P.x + P.step) ((estimate_of y).state ++ joined (estimate_of y).covariance) b₁
      → b₃ ≡ put_at P.mu (u ∷ v ∷ []) b₂ → b₃ ≡ with_bank 2 m 2 b (mixed_in 2 m 2 b)
  unfolding with_estimates
  roads_put {b₁} {b₂} room p q d =
      slice-put P.mu b₂ (u ∷ v ∷ []) room d
      ∙ ap (placed P.mu (u ∷ v ∷ [])) (q ∙ ap (placed (P.x + P.step) ((estimate_of y).state ++ joined (estimate_of y).covariance)) p)
      ∙ λ i. placed (G.mu i) (probabilities_are i) (placed (next i) ((get_or (estimates_are i) 1 (estimate [] [])).state ++ joined (get_or (estimates_are i) 1 (estimate [] [])).covariance) (placed (G.x i) ((get_or (estimates_are i) 0 (estimate [] [])).state ++ joined (get_or (estimates_are i) 0 (estimate [] [])).covariance) b))
