-- Laws of results: the sizes of a call that goes on, the two ways out of a public function, and what the cases of a result say. Assumes nothing.
use mathlib.Core.Path.{◌≡◌, refl, sym, ap, ◌∙◌}
use mathlib.Core.List.{List}
use mathlib.Core.Bool.{Bool, true, false}
use Prim.Native.Nat.{ℕ}
use lib.Ieee.{Float}
use Rattle.std.specs.Prelude.{Ok, Err}
use Rattle.answer.specs.declared.Refusal.{Refusal}
use Rattle.answer.specs.declared.Refusal.TheVariants.{WrongSize}
use Rattle.answer.specs.Answer.{Answer, where_sized, if_sized}
use Rattle.answer.proofs.Answers.{same_answer}
use Rattle.algebra.specs.Matrix.{Vector, Matrix}
use Rattle.algebra.specs.Array.{used, pad, pad_row}
use Rattle.algebra.proofs.Matrices.{Shape}
use Rattle.algebra.proofs.Arrays.{used-pad}
use Rattle.sizes.specs.declared.Size.{Size}
use Rattle.sizes.specs.Size.{count, size_of, sized, shaped, alike, chained, inside, paired, applicable}
use Rattle.sizes.proofs.Sizes.{Sizes, is_count, sizes_of, chained-sizes, alike-sizes, inside-sizes, paired-size, applicable-sizes}
use Rattle.matrix.specs.Result.{as_matrix, as_vector}

-- ---- a call o of crates/sizes gave sizes: its test t was passed, and they are of the numbers that it was given
was_passed : {A : Type 0} (t : Bool) (x : A) {y : A} {o : Answer A} → o ≡ where_sized t x → o ≡ Ok y → t ≡ true
was_passed true x p q = refl
was_passed false x p q = cc

was_given : {A : Type 0} (t : Bool) (x : A) {y : A} {o : Answer A} → o ≡ where_sized t x → o ≡ Ok y → y ≡ x
was_given true x p q = cc
was_given false x p q = cc

pub record OfSize (t : Bool) (n : ℕ) (s : Size) : Type 0 where
  pub passed : t ≡ true
  pub size : count s ≡ n

pub record OfShape (t : Bool) (r c : ℕ) (s u : Size) : Type 0 where
  pub passed : t ≡ true
  pub rows : count s ≡ r
  pub cols : count u ≡ c

pub record OfChain (t : Bool) (r k c : ℕ) (s m u : Size) : Type 0 where
  pub passed : t ≡ true
  pub rows : count s ≡ r
  pub inner : count m ≡ k
  pub cols : count u ≡ c

of_size : (t : Bool) (n : ℕ) {s : Size} {o : Answer Size} → (t ≡ true → sized n ≡ true) → o ≡ where_sized t (size_of n) → o ≡ Ok s → OfSize t n s
of_size t n h p q = let e = was_passed t _ p q in record { passed = e; size = is_count (h e) (was_given t _ p q) }

of_shape : (t : Bool) (r c : ℕ) {s u : Size} {o : Answer (Size × Size)} → (t ≡ true → Sizes r c) → o ≡ where_sized t (size_of r, size_of c) → o ≡ Ok (s, u)
    → OfShape t r c s u
of_shape t r c h p q =
    let e = was_passed t _ p q in
    let z = h e in
    let d = was_given t _ p q in
    record { passed = e; rows = is_count z.rows (ap (λ (x : Size × Size). x.0) d); cols = is_count z.cols (ap (λ (x : Size × Size). x.1) d) }

pub size_given : (n : ℕ) {s : Size} {o : Answer Size} → o ≡ where_sized (sized n) (size_of n) → o ≡ Ok s → OfSize (sized n) n s
size_given n = of_size (sized n) n (λ e. e)

pub pair_given : (n m : ℕ) {s : Size} {o : Answer Size} → o ≡ where_sized (paired n m) (size_of n) → o ≡ Ok s → OfSize (paired n m) n s
pair_given n m = of_size (paired n m) n (paired-size n m)

pub shape_given : (r c : ℕ) {s u : Size} {o : Answer (Size × Size)} → o ≡ where_sized (shaped r c) (size_of r, size_of c) → o ≡ Ok (s, u)
    → OfShape (shaped r c) r c s u
shape_given r c = of_shape (shaped r c) r c (sizes_of r c)

pub alike_given : (ar ac br bc : ℕ) {s u : Size} {o : Answer (Size × Size)} → o ≡ where_sized (alike ar ac br bc) (size_of ar, size_of ac) → o ≡ Ok (s, u)
    → OfShape (alike ar ac br bc) ar ac s u
alike_given ar ac br bc = of_shape (alike ar ac br bc) ar ac (alike-sizes ar ac br bc)

pub inside_given : (r c i j : ℕ) {s u : Size} {o : Answer (Size × Size)} → o ≡ where_sized (inside r c i j) (size_of r, size_of c) → o ≡ Ok (s, u)
    → OfShape (inside r c i j) r c s u
inside_given r c i j = of_shape (inside r c i j) r c (λ e. (inside-sizes r c i j e).sizes)

pub applied_given : (r c n : ℕ) {s u : Size} {o : Answer (Size × Size)} → o ≡ where_sized (applicable r c n) (size_of r, size_of c) → o ≡ Ok (s, u)
    → OfShape (applicable r c n) r c s u
applied_given r c n = of_shape (applicable r c n) r c (applicable-sizes r c n)

pub chain_given : (ar ac br bc : ℕ) {s m u : Size} {o : Answer (Size × Size × Size)} → o ≡ where_sized (chained ar ac br bc) (size_of ar, size_of ac, size_of bc)
    → o ≡ Ok (s, m, u) → OfChain (chained ar ac br bc) ar ac bc s m u
chain_given ar ac br bc p q =
    let T : Type 0 = Size × Size × Size in
    let e = was_passed (chained ar ac br bc) _ p q in
    let z = chained-sizes ar ac br bc e in
    let d = was_given (chained ar ac br bc) _ p q in
    record {
      passed = e;
      rows = is_count z.rows (ap (λ (x : T). x.0) d);
      inner = is_count z.inner (ap (λ (x : T). x.1) d);
      cols = is_count z.cols (ap (λ (x : T). x.2) d);
    }

-- ---- the two ways out: g makes the call's result of an answer, and t is the test of its sizes
module _ {A R : Type 0} (g : Answer A → R) {t : Bool} where
  pub as_answered : (x : A) {y : R} → t ≡ true → y ≡ g (Ok x) → y ≡ g (where_sized t x)
  as_answered x e p = p ∙ ap (λ (b : Bool). g (where_sized b x)) (sym e)

  pub as_refused : (x : A) {y : R} → t ≡ false → y ≡ g (Err WrongSize) → y ≡ g (where_sized t x)
  as_refused x e p = p ∙ ap (λ (b : Bool). g (where_sized b x)) (sym e)

  -- the same, of what may be refused for another reason
  pub if_answered : (o : Answer A) {y : R} → t ≡ true → y ≡ g o → y ≡ g (if_sized t o)
  if_answered o e p = p ∙ ap (λ (b : Bool). g (if_sized b o)) (sym e)

  pub if_refused : (o : Answer A) {y : R} → t ≡ false → y ≡ g (Err WrongSize) → y ≡ g (if_sized t o)
  if_refused o e p = p ∙ ap (λ (b : Bool). g (if_sized b o)) (sym e)

module _ {t : Bool} where
  pub matrix-answered : (A : Matrix) {rows : List (List Float)} → t ≡ true → rows ≡ pad A → Ok rows ≡ as_matrix (where_sized t A)
  matrix-answered A e p = as_answered as_matrix A e (ap Ok p)

  pub vector-answered : (v : Vector) {cells : List Float} → t ≡ true → cells ≡ pad_row v → Ok cells ≡ as_vector (where_sized t v)
  vector-answered v e p = as_answered as_vector v e (ap Ok p)

  -- of a number, and of a test
  pub value_answered : {A : Type 0} (x : A) {y : A} → t ≡ true → y ≡ x → Ok y ≡ where_sized t x
  value_answered {A} x e p = as_answered {A = A} (λ a. a) x e (ap Ok p)

-- ---- what the inside makes at a `Size`, the call answers at the number that it was given
module _ {A R : Type 0} (g : Answer A → R) {t : Bool} {y : R} where
  pub at_size : (G : ℕ → A) {n : ℕ} {s : Size} → OfSize t n s → y ≡ g (Ok (G (count s))) → y ≡ g (where_sized t (G n))
  at_size G {n} z h = as_answered g (G n) z.passed (h ∙ ap (λ (k : ℕ). g (Ok (G k))) z.size)

  pub at_shape : (G : ℕ → ℕ → A) {r c : ℕ} {s u : Size} → OfShape t r c s u → y ≡ g (Ok (G (count s) (count u))) → y ≡ g (where_sized t (G r c))
  at_shape G {r} {c} z h = as_answered g (G r c) z.passed (h ∙ λ i. g (Ok (G (z.rows i) (z.cols i))))

module _ {t : Bool} where
  pub vector_at : (G : ℕ → Vector) {n : ℕ} {s : Size} {cells : List Float} → OfSize t n s → cells ≡ pad_row (G (count s)) → Ok cells ≡ as_vector (where_sized t (G n))
  vector_at G z h = at_size as_vector G z (ap Ok h)

  pub matrix_at : (G : ℕ → ℕ → Matrix) {r c : ℕ} {s u : Size} {rows : List (List Float)} → OfShape t r c s u → rows ≡ pad (G (count s) (count u))
      → Ok rows ≡ as_matrix (where_sized t (G r c))
  matrix_at G z h = at_shape as_matrix G z (ap Ok h)

-- ---- a matrix result w
-- f of the used part of an array that holds a matrix is f of the matrix
pub padded_is : (f : Matrix → Answer Matrix) {r c : ℕ} {A : Matrix} {a : List (List Float)} {w : Answer (List (List Float))} → Shape r c A → a ≡ pad A
    → w ≡ as_matrix (f (used r c a)) → w ≡ as_matrix (f A)
padded_is f {r} {c} {A} s e q = q ∙ ap (λ (M : Matrix). as_matrix (f M)) (ap (used r c) e ∙ used-pad r c A s)

-- w stands for the answer o
pub was_answered : (o : Answer Matrix) {r c : ℕ} {w : Answer (List (List Float))} {rows : List (List Float)} → ((A : Matrix) → o ≡ Ok A → Shape r c A)
    → w ≡ as_matrix o → w ≡ Ok rows → o ≡ Ok (used r c rows)
was_answered (Err k) s e h = cc
was_answered (Ok A) {r} {c} s e h = ap Ok (sym (used-pad r c A (s A refl)) ∙ ap (used r c) (same_answer (sym e ∙ h)))

pub was_refused : (o : Answer Matrix) {k : Refusal} {w : Answer (List (List Float))} → w ≡ as_matrix o → w ≡ Err k → o ≡ Err k
was_refused (Err j) e h = cc
was_refused (Ok A) e h = cc
