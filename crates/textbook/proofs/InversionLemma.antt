-- The matrix inversion lemma, in exact arithmetic: what is added to the information is the linear filter's correction. Assumes nothing.
use mathlib.Core.Path.{◌≡◌, sym, ap, ap₂, ◌∙◌}
use Prim.Native.Nat.{ℕ}
use Rattle.textbook.specs.Arithmetic.{Arithmetic, Exact}
use Rattle.textbook.specs.Matrices as M
use Rattle.textbook.specs.Linear as Li
use Rattle.textbook.specs.Information as In
use Rattle.textbook.proofs.Products as Pr

module _ (N : Arithmetic) (X : Exact N) (n m : ℕ) (P Ω R R⁻¹ H S⁻¹ : M.Mat N)
    (p : M.Inverse N n P Ω) (q : M.Inverse N m R R⁻¹) (g : M.Inverse N m (Li.propagated N m n H P R) S⁻¹) where
  abbrev mul : ℕ → ℕ → ℕ → M.Mat N → M.Mat N → M.Mat N
  mul = M.mul N

  abbrev sub : ℕ → ℕ → M.Mat N → M.Mat N → M.Mat N
  sub = M.sub N

  abbrev one : ℕ → M.Mat N
  one = M.identity N

  abbrev assoc : (r k l c : ℕ) (A B C : M.Mat N) → mul r l c (mul r k l A B) C ≡ mul r k c A (mul k l c B C)
  assoc = Pr.mul_assoc N X

  -- Hᵀ, H P, P Hᵀ, H P Hᵀ, K, Hᵀ R⁻¹, Hᵀ R⁻¹ H
  abbrev Ht : M.Mat N
  Ht = M.transpose N m n H

  abbrev HP : M.Mat N
  HP = mul m n n H P

  abbrev PHt : M.Mat N
  PHt = mul n n m P Ht

  abbrev J : M.Mat N
  J = mul m n m HP Ht

  abbrev K : M.Mat N
  K = mul n m m PHt S⁻¹

  abbrev Q : M.Mat N
  Q = mul n m m Ht R⁻¹

  abbrev U : M.Mat N
  U = mul n m n Q H

  -- P - K H P
  abbrev C : M.Mat N
  C = sub n n (Pr.fit N X n n P) (mul n m n K HP)

  C_is : Li.corrected_covariance N n m (Li.gain N n m P H S⁻¹) H P ≡ C
  unfolding Li.corrected_covariance Li.gain
  C_is = Pr.sub-mul N X n n n (one n) (mul n m n K H) P ∙ ap₂ (sub n n) (Pr.identity-left N X n n P) (assoc n m n n K H P)

  -- ---- Ω K = Hᵀ S⁻¹, and Hᵀ R⁻¹ H K = Hᵀ R⁻¹ - Hᵀ S⁻¹
  Ω_K : mul n n m Ω K ≡ mul n m m Ht S⁻¹
  Ω_K =
      sym (assoc n n m m Ω PHt S⁻¹)
      ∙ ap (λ (Z : M.Mat N). mul n m m Z S⁻¹)
      (sym (assoc n n n m Ω P Ht) ∙ ap (λ (Z : M.Mat N). mul n n m Z Ht) p.before ∙ Pr.identity-left N X n m Ht)
      ∙ Pr.fit-left N X n m m Ht S⁻¹

  H-K : mul m n m H K ≡ sub m m (one m) (mul m m m R S⁻¹)
  unfolding Li.propagated
  H-K =
      sym (assoc m n m m H PHt S⁻¹)
      ∙ ap (λ (Z : M.Mat N). mul m m m Z S⁻¹) (sym (assoc m n n m H P Ht))
      ∙ sym (Pr.fit-mul N X m m m J S⁻¹)
      ∙ Pr.sub-only N X m m (mul m m m J S⁻¹) (mul m m m R S⁻¹) (one m) (sym (Pr.add-mul N X m m m J R S⁻¹) ∙ g.after)

  U-K : mul n n m U K ≡ sub n m Q (mul n m m Ht S⁻¹)
  U-K =
      assoc n m n m Q H K
      ∙ ap (mul n m m Q) H-K
      ∙ Pr.mul-sub N X n m m Q (one m) (mul m m m R S⁻¹)
      ∙ ap₂ (sub n m) (Pr.identity-right N X n m Q ∙ Pr.fit-mul N X n m m Ht R⁻¹)
      (sym (assoc n m m m Q R S⁻¹)
      ∙ ap (λ (Z : M.Mat N). mul n m m Z S⁻¹) (assoc n m m m Ht R⁻¹ R ∙ ap (mul n m m Ht) q.before ∙ Pr.identity-right N X n m Ht)
      ∙ Pr.fit-left N X n m m Ht S⁻¹)

  -- ---- (Ω + Hᵀ R⁻¹ H) C = I
  before : mul n n n (In.informed_matrix N n m H R⁻¹ Ω) (Li.corrected_covariance N n m (Li.gain N n m P H S⁻¹) H P) ≡ one n
  unfolding In.informed_matrix
  before =
      ap (mul n n n (M.add N n n Ω U)) C_is
      ∙ Pr.add-mul N X n n n Ω U C
      ∙ ap₂ (M.add N n n) by_Ω by_U
      ∙ Pr.back_to N X n n (one n) (mul n m n (mul n m m Ht S⁻¹) HP) (mul n m n Q HP)
      ∙ Pr.fit-identity N X n
    where
      by_Ω : mul n n n Ω C ≡ sub n n (one n) (mul n m n (mul n m m Ht S⁻¹) HP)
      by_Ω =
          Pr.mul-sub N X n n n Ω (Pr.fit N X n n P) (mul n m n K HP)
          ∙ ap₂ (sub n n) (Pr.fit-right N X n n n Ω P ∙ p.before) (sym (assoc n n m n Ω K HP) ∙ ap (λ (Z : M.Mat N). mul n m n Z HP) Ω_K)

      by_U : mul n n n U C ≡ sub n n (mul n m n Q HP) (sub n n (mul n m n Q HP) (mul n m n (mul n m m Ht S⁻¹) HP))
      by_U =
          Pr.mul-sub N X n n n U (Pr.fit N X n n P) (mul n m n K HP)
          ∙ ap₂ (sub n n) (Pr.fit-right N X n n n U P ∙ assoc n m n n Q H P)
          (sym (assoc n n m n U K HP) ∙ ap (λ (Z : M.Mat N). mul n m n Z HP) U-K ∙ Pr.sub-mul N X n m n Q (mul n m m Ht S⁻¹) HP)

  -- ---- C (Ω + Hᵀ R⁻¹ H) = I
  K-J : mul n m m K J ≡ sub n m PHt (mul n m m K R)
  unfolding Li.propagated
  K-J =
      assoc n m m m PHt S⁻¹ J
      ∙ ap (mul n m m PHt)
      (sym (Pr.fit-mul N X m m m S⁻¹ J)
      ∙ Pr.sub-only N X m m (mul m m m S⁻¹ J) (mul m m m S⁻¹ R) (one m) (sym (Pr.mul-add N X m m m S⁻¹ J R) ∙ g.before))
      ∙ Pr.mul-sub N X n m m PHt (one m) (mul m m m S⁻¹ R)
      ∙ ap₂ (sub n m) (Pr.identity-right N X n m PHt ∙ Pr.fit-mul N X n n m P Ht) (sym (assoc n m m m PHt S⁻¹ R))

  KHP_Q : mul n n m (mul n m n K HP) Q ≡ sub n m (mul n m m PHt R⁻¹) K
  KHP_Q =
      assoc n m n m K HP Q
      ∙ ap (mul n m m K) (sym (assoc m n m m HP Ht R⁻¹))
      ∙ sym (assoc n m m m K J R⁻¹)
      ∙ ap (λ (Z : M.Mat N). mul n m m Z R⁻¹) K-J
      ∙ Pr.sub-mul N X n m m PHt (mul n m m K R) R⁻¹
      ∙ ap (sub n m (mul n m m PHt R⁻¹))
      (assoc n m m m K R R⁻¹ ∙ ap (mul n m m K) q.after ∙ Pr.identity-right N X n m K ∙ Pr.fit-mul N X n m m PHt S⁻¹)

  after : mul n n n (Li.corrected_covariance N n m (Li.gain N n m P H S⁻¹) H P) (In.informed_matrix N n m H R⁻¹ Ω) ≡ one n
  unfolding In.informed_matrix
  after =
      ap (λ (Z : M.Mat N). mul n n n Z (M.add N n n Ω U)) C_is
      ∙ Pr.mul-add N X n n n C Ω U
      ∙ ap₂ (M.add N n n) by_Ω by_U
      ∙ Pr.back_to N X n n (one n) (mul n m n K H) (mul n m n (mul n m m PHt R⁻¹) H)
      ∙ Pr.fit-identity N X n
    where
      by_Ω : mul n n n C Ω ≡ sub n n (one n) (mul n m n K H)
      by_Ω =
          Pr.sub-mul N X n n n (Pr.fit N X n n P) (mul n m n K HP) Ω
          ∙ ap₂ (sub n n) (Pr.fit-left N X n n n P Ω ∙ p.after)
          (assoc n m n n K HP Ω ∙ ap (mul n m n K) (assoc m n n n H P Ω ∙ ap (mul m n n H) p.after ∙ Pr.identity-right N X m n H)
          ∙ Pr.fit-right N X n m n K H)

      by_U : mul n n n C U ≡ sub n n (mul n m n (mul n m m PHt R⁻¹) H) (sub n n (mul n m n (mul n m m PHt R⁻¹) H) (mul n m n K H))
      by_U =
          Pr.sub-mul N X n n n (Pr.fit N X n n P) (mul n m n K HP) U
          ∙ ap₂ (sub n n)
          (Pr.fit-left N X n n n P U ∙ sym (assoc n n m n P Q H) ∙ ap (λ (Z : M.Mat N). mul n m n Z H) (sym (assoc n n m m P Ht R⁻¹)))
          (sym (assoc n n m n (mul n m n K HP) Q H) ∙ ap (λ (Z : M.Mat N). mul n m n Z H) KHP_Q ∙ Pr.sub-mul N X n m n (mul n m m PHt R⁻¹) K H)

  pub information-inverse : M.Inverse N n (Li.corrected_covariance N n m (Li.gain N n m P H S⁻¹) H P) (In.informed_matrix N n m H R⁻¹ Ω)
  information-inverse = record { before = before; after = after }

  -- ---- the state: (Ω + Hᵀ R⁻¹ H) (x + K (z - H x)) = Ω x + Hᵀ R⁻¹ z
  informed-K : mul n n m (M.add N n n Ω U) K ≡ Q
  informed-K = Pr.add-mul N X n n m Ω U K ∙ ap₂ (M.add N n m) Ω_K U-K ∙ Pr.whole N X n m (mul n m m Ht S⁻¹) Q ∙ Pr.fit-mul N X n m m Ht R⁻¹

  state-upright : (x z : M.Vec N)
      → mul n n 1 (M.add N n n Ω U)
      (M.add N n 1 (Pr.upright N X n x) (mul n m 1 K (sub m 1 (Pr.upright N X m z) (mul m n 1 H (Pr.upright N X n x)))))
      ≡ M.add N n 1 (mul n n 1 Ω (Pr.upright N X n x)) (mul n m 1 Ht (mul m m 1 R⁻¹ (Pr.upright N X m z)))
  state-upright v w =
      Pr.mul-add N X n n 1 (M.add N n n Ω U) x (mul n m 1 K d)
      ∙ ap₂ (M.add N n 1)
      (Pr.add-mul N X n n 1 Ω U x ∙ ap (M.add N n 1 (mul n n 1 Ω x)) (assoc n m n 1 Q H x))
      (sym (assoc n n m 1 (M.add N n n Ω U) K d) ∙ ap (λ (Z : M.Mat N). mul n m 1 Z d) informed-K ∙ Pr.mul-sub N X n m 1 Q z (mul m n 1 H x))
      ∙ Pr.through N X n 1 (mul n n 1 Ω x) (mul n m 1 Q (mul m n 1 H x)) (mul n m 1 Q z)
      ∙ ap (M.add N n 1 (mul n n 1 Ω x)) (assoc n m m 1 Ht R⁻¹ z)
    where
      x : M.Mat N
      x = Pr.upright N X n v

      z : M.Mat N
      z = Pr.upright N X m w

      d : M.Mat N
      d = sub m 1 z (mul m n 1 H x)

  pub information-state : (x z : M.Vec N)
      → M.matvec N n n (In.informed_matrix N n m H R⁻¹ Ω) (Li.corrected_state N n m (Li.gain N n m P H S⁻¹) (Li.innovation N n m H x z) x)
      ≡ In.informed_vector N n m H R⁻¹ z (M.matvec N n n Ω x)
  unfolding In.informed_matrix In.informed_vector Li.corrected_state Li.innovation Li.gain M.vec_add M.matvec
  information-state x z =
      Pr.lying N X n _ _
      (Pr.upright-matvec N X n n (M.add N n n Ω U) (M.vec_add N n x (M.matvec N n m K d))
      ∙ ap (mul n n 1 (M.add N n n Ω U))
      (Pr.upright-add N X n x (M.matvec N n m K d)
      ∙ ap (M.add N n 1 (Pr.upright N X n x))
      (Pr.upright-matvec N X n m K d
      ∙ ap (mul n m 1 K) (Pr.upright-sub N X m z (M.matvec N m n H x) ∙ ap (sub m 1 (Pr.upright N X m z)) (Pr.upright-matvec N X m n H x))))
      ∙ state-upright x z
      ∙ sym (Pr.upright-add N X n (M.matvec N n n Ω x) (M.matvec N n m Ht (M.matvec N m m R⁻¹ z))
      ∙ ap₂ (M.add N n 1) (Pr.upright-matvec N X n n Ω x)
      (Pr.upright-matvec N X n m Ht (M.matvec N m m R⁻¹ z) ∙ ap (mul n m 1 Ht) (Pr.upright-matvec N X m m R⁻¹ z))))
    where
      d : M.Vec N
      d = M.vec_sub N m z (M.matvec N m n H x)
