-- The ways in and out of a call on slices: what a test that is passed says of a slice, what is read from one, and what is told and left in the
-- lent place. `told` is the law of all calls; the laws after it say what it asks for by the place and by how the result was made. Assumes nothing.
use mathlib.Core.Path.{◌≡◌, refl, sym, ap, ap₂, ◌∙◌, subst}
use mathlib.Core.List.{List, [], ◌∷◌}
use mathlib.Core.Bool.{Bool, true, false, ◌&&◌}
use Prim.Native.Nat.{ℕ, ◌*◌}
use native.Mathlib.Omega.{arith}
use lib.ListN.{length, get_or, set}
use lib.Ieee.{Float}
use Rattle.std.specs.Prelude.{Ok, Err}
use borrow.Author.Tests.{eqb-true, eq-eqb}
use Rattle.answer.specs.Answer.{Answer, mapped, where_sized, if_sized}
use Rattle.answer.specs.Told.{written}
use Rattle.answer.proofs.Answers.{passed, passed_is}
use Rattle.answer.proofs.Choice.{and_left, and_right}
use Rattle.algebra.specs.Matrix.{Vector, Matrix, one_by_one}
use Rattle.algebra.specs.Array.{cut, used, pad_row, pad}
use Rattle.algebra.proofs.Matrices.{Shape}
use Rattle.algebra.proofs.Arrays.{length_cut, used-pad, cut-pad_row}
use Rattle.matrix.specs.Result.{as_matrix}
use Rattle.sizes.specs.declared.Size.{Size}
use Rattle.sizes.specs.declared.Size.TheVariants.{One}
use Rattle.sizes.specs.Size.{count, size_of, sized, shaped, alike, paired}
use Rattle.sizes.proofs.Sizes.{sizes_of, is_count}
use Rattle.layout.specs.Layout.{joined, put_at}
use Rattle.layout.proofs.Places.{placed-whole}
use Rattle.layout.proofs.Calls.{length-matrix, matrix-put, vector-put}
use Rattle.c_slices.specs.Slices.{is_matrix, is_vector, rows}
use Rattle.c_slices.specs.Told.{single, matrix_told}

-- ---- a slice b that the test gave sizes of: it is just r rows of c numbers, and s and u are these by their type
pub record Whole (r c : ℕ) (b : List Float) (s u : Size) : Type 0 where
  pub is : is_matrix r c (length b) ≡ true
  pub shape : shaped r c ≡ true
  pub size : sized r ≡ true
  pub rows : count s ≡ r
  pub cols : count u ≡ c
  pub long : length b ≡ r * c

pub whole_of : (r c : ℕ) (b : List Float) (s u : Size) → is_matrix r c (length b) ≡ true → s ≡ size_of r → u ≡ size_of c → Whole r c b s u
unfolding is_matrix
whole_of r c b s u e p q =
    let h = and_left (shaped r c) _ e in
    let z = sizes_of r c h in
    record {
      is = e;
      shape = h;
      size = z.rows;
      rows = is_count z.rows p;
      cols = is_count z.cols q;
      long = eqb-true (length b) (r * c) (and_right (shaped r c) _ e);
    }

pub whole : (r c : ℕ) (b : List Float) {s u : Size} {o : Answer (Size × Size)} → o ≡ where_sized (is_matrix r c (length b)) (size_of r, size_of c) → o ≡ Ok (s, u)
    → Whole r c b s u
whole r c b p q =
    let t = is_matrix r c (length b) in
    let e : ◌≡◌ {A = Size × Size} _ _ = passed_is t _ (sym p ∙ q) in
    whole_of r c b _ _ (passed t _ (sym p ∙ q)) (ap (λ (x : Size × Size). x.0) e) (ap (λ (x : Size × Size). x.1) e)

pub whole_vector : (n : ℕ) (b : List Float) {s : Size} {o : Answer Size} → o ≡ where_sized (is_vector n (length b)) (size_of n) → o ≡ Ok s → Whole n 1 b s One
whole_vector n b p q =
    let t = is_vector n (length b) in
    whole_of n 1 b _ One (passed t _ (sym p ∙ q)) (passed_is t _ (sym p ∙ q)) refl

-- ---- what is read, where the code has l and j for r and c
module _ {r c : ℕ} {b : List Float} {s u : Size} (w : Whole r c b s u) {l j : ℕ} (d : l ≡ r) (e : j ≡ c) where
  pub long_at : length b ≡ l * j
  long_at = w.long ∙ sym (ap₂ (λ (r c : ℕ). r * c) d e)

  -- used by the sizes of the code, and by the numbers
  pub seen : (x : List (List Float)) → (length b ≡ l * j → used l j x ≡ rows l j b) → used l j x ≡ rows r c b
  seen x h = h long_at ∙ λ i. rows (d i) (e i) b

  pub read : (x : List (List Float)) → (length b ≡ l * j → used l j x ≡ rows l j b) → used r c x ≡ rows r c b
  read x h = sym (λ i. used (d i) (e i) x) ∙ seen x h

module _ {n : ℕ} {b : List Float} {s u : Size} (w : Whole n 1 b s u) where
  pub numbers : length b ≡ n
  numbers = omega (arith, w.long)

  module _ {j : ℕ} (d : j ≡ n) where
    pub seen_vector : (x : List Float) → (length b ≡ j → cut j x ≡ b) → cut j x ≡ b
    seen_vector x h = h (numbers ∙ sym d)

    pub read_vector : (x : List Float) → (length b ≡ j → cut j x ≡ b) → cut n x ≡ b
    read_vector x h = sym (λ i. cut (d i) x) ∙ seen_vector x h

-- ---- what stands in the place o of the right length, where the code put z, with l and j for the sizes
pub matrix-out : {p q l j : ℕ} {o₁ : List Float} (o : List Float) (z : List (List Float)) → length o ≡ p * q → l ≡ p → j ≡ q → o₁ ≡ put_at 0 (joined (used l j z)) o
    → o₁ ≡ joined (used p q z)
matrix-out {p} {q} {l} {j} o z h d e g =
    matrix-put 0 o z d e (omega (arith, h)) g ∙ placed-whole (joined (used p q z)) o (length-matrix p q z ∙ sym h)

pub vector-out : {n j : ℕ} {o₁ : List Float} (o z : List Float) → length o ≡ n → j ≡ n → o₁ ≡ put_at 0 (cut j z) o → o₁ ≡ cut n z
vector-out {n} {j} o z h d g = vector-put 0 o z d (omega (arith, h)) g ∙ placed-whole (cut n z) o (omega (arith, length_cut n z, h))

-- ---- the law: T is the test, and G the answer by it. The call made m, which is n by what it read, and handed it on; `tell` is the answer that a result tells
pub told : {A R : Type 0} (tell : R → Answer A) (G : Bool → Answer A) (o : A) {T : Bool} {m n : R} {y : Answer (Unit {0}) × A} → T ≡ true → m ≡ n → tell n ≡ G true
    → y ≡ written o (tell m) → y ≡ written o (G T)
told {A} {R} tell G o t f r g = g ∙ ap (λ (x : R). written o (tell x)) f ∙ ap (written o) r ∙ ap (λ (b : Bool). written o (G b)) (sym t)

-- ---- by a kernel, which made z of B₀, or v₀; that is B, or v, by what was read
pub matrix-made : {T : Bool} {p q l j : ℕ} {o₁ : List Float} {z : List (List Float)} {B₀ B : Matrix} (o : List Float) → T ≡ true → length o ≡ p * q → l ≡ p → j ≡ q
    → B₀ ≡ B → Shape p q B → z ≡ pad B₀ → o₁ ≡ put_at 0 (joined (used l j z)) o → (Ok tt, o₁) ≡ written o (where_sized T (joined B))
matrix-made {T} {p} {q} {l} {j} {o₁} {z} {B₀} {B} o t w d e f s h g =
    told (λ z. Ok (joined (used p q z))) (λ b. where_sized b (joined B)) o t (h ∙ ap pad f) (ap (λ (M : Matrix). Ok (joined M)) (used-pad p q B s))
    (ap (λ (l : List Float). (Ok tt, l)) (matrix-out o z w d e g))

pub vector-made : {T : Bool} {n j : ℕ} {o₁ z : List Float} {v₀ v : Vector} (o : List Float) → T ≡ true → length o ≡ n → j ≡ n
    → v₀ ≡ v → length v ≡ n → z ≡ pad_row v₀ → o₁ ≡ put_at 0 (cut j z) o → (Ok tt, o₁) ≡ written o (where_sized T v)
vector-made {T} {n} {j} {o₁} {z} {v₀} {v} o t w d f s h g =
    told (λ z. Ok (cut n z)) (λ b. where_sized b v) o t (h ∙ ap pad_row f) (ap Ok (cut-pad_row n v s))
    (ap (λ (l : List Float). (Ok tt, l)) (vector-out o z w d g))

-- ---- by a function by value, whose own test is u; its result m stands for x₀, which is x by what was read
module _ {T : Bool} (u : Bool) where
  -- the call answers where both tests are passed
  pub value_where : {A : Type 0} (o : A) {x₀ x : A} {m : Answer A} {y : Answer (Unit {0}) × A} → T ≡ true → x₀ ≡ x → m ≡ where_sized u x₀ → y ≡ written o m
      → y ≡ written o (where_sized (T && u) x)
  value_where {A} o {x₀} {x} t f h g = told {A = A} (λ a. a) (λ b. where_sized (b && u) x) o t (h ∙ ap (where_sized u) f) refl g

-- and where the first is passed, the second is
module _ {T u : Bool} where
  both-are : T ≡ true → u ≡ true → T && u ≡ T
  both-are t e = (λ i. t i && e i) ∙ sym t

  pub value_handed : {A : Type 0} (o : A) {x₀ x : A} {m : Answer A} {y : Answer (Unit {0}) × A} → T ≡ true → u ≡ true → x₀ ≡ x → m ≡ where_sized u x₀ → y ≡ written o m
      → y ≡ written o (where_sized T x)
  value_handed {A} o {x₀} {x} t e f h g = value_where u o t f h g ∙ ap (λ (b : Bool). written o (where_sized b x)) (both-are t e)

-- by one that answers with rows, given by l and j: the call answers with T and that answer
answer-told : (p q : ℕ) (a : Answer Matrix) → ((B : Matrix) → a ≡ Ok B → Shape p q B) → matrix_told p q (as_matrix a) ≡ mapped joined a
answer-told p q (Err k) s = refl
answer-told p q (Ok B) s = ap (λ (M : Matrix). Ok (joined M)) (used-pad p q B (s B refl))

given_is : {p q l j : ℕ} (o : List Float) {a₀ a : Answer Matrix} {m : Answer (List (List Float))} {y : Answer (Unit {0}) × List Float}
    → length o ≡ p * q → l ≡ p → j ≡ q → a₀ ≡ a → ((B : Matrix) → a ≡ Ok B → Shape p q B) → m ≡ as_matrix a₀
    → (length o ≡ l * j → y ≡ written o (matrix_told l j m)) → y ≡ written o (mapped joined a)
given_is {p} {q} {l} {j} o {a₀} {a} {m} w d e f s h g =
    g (w ∙ sym (ap₂ (λ (r c : ℕ). r * c) d e)) ∙ (λ i. written o (matrix_told (d i) (e i) ((h ∙ ap as_matrix f) i))) ∙ ap (written o) (answer-told p q a s)

pub answer-handed : {T : Bool} {p q l j : ℕ} (o : List Float) {a₀ a : Answer Matrix} {m : Answer (List (List Float))} {y : Answer (Unit {0}) × List Float}
    → T ≡ true → length o ≡ p * q → l ≡ p → j ≡ q → a₀ ≡ a → ((B : Matrix) → a ≡ Ok B → Shape p q B) → m ≡ as_matrix a₀
    → (length o ≡ l * j → y ≡ written o (matrix_told l j m)) → y ≡ written o (if_sized T (mapped joined a))
answer-handed o {a₀} {a} t w d e f s h g = given_is o w d e f s h g ∙ ap (λ (b : Bool). written o (if_sized b (mapped joined a))) (sym t)

-- and where its own test is u
mapped-where : (u : Bool) (B : Matrix) → mapped joined (where_sized u B) ≡ where_sized u (joined B)
mapped-where true B = refl
mapped-where false B = refl

pub matrix-where : {T : Bool} (u : Bool) {p q l j : ℕ} (o : List Float) {B₀ B : Matrix} {m : Answer (List (List Float))} {y : Answer (Unit {0}) × List Float}
    → T ≡ true → length o ≡ p * q → l ≡ p → j ≡ q → B₀ ≡ B → Shape p q B → m ≡ as_matrix (where_sized u B₀)
    → (length o ≡ l * j → y ≡ written o (matrix_told l j m)) → y ≡ written o (where_sized (T && u) (joined B))
matrix-where u {p} {q} o {B₀} {B} t w d e f s h g =
    given_is o w d e (ap (where_sized u) f) (λ M r. subst (Shape p q) (sym (passed_is u B r)) s) h g
    ∙ ap (written o) (mapped-where u B) ∙ ap (λ (b : Bool). written o (where_sized (b && u) (joined B))) (sym t)

pub matrix-handed : {T u : Bool} {p q l j : ℕ} (o : List Float) {B₀ B : Matrix} {m : Answer (List (List Float))} {y : Answer (Unit {0}) × List Float}
    → T ≡ true → u ≡ true → length o ≡ p * q → l ≡ p → j ≡ q → B₀ ≡ B → Shape p q B → m ≡ as_matrix (where_sized u B₀)
    → (length o ≡ l * j → y ≡ written o (matrix_told l j m)) → y ≡ written o (where_sized T (joined B))
matrix-handed {T} {u} o {B₀} {B} t v w d e f s h g = matrix-where u o t w d e f s h g ∙ ap (λ (b : Bool). written o (where_sized b (joined B))) (both-are t v)

-- ---- a matrix of one number
pub single_given : (o : List Float) (a : Answer Float) (d : Float) {k : Answer (Unit {0})} {x : Float} → length o ≡ 1 → (k, x) ≡ written (get_or o 0 d) a
    → (k, set o 0 x) ≡ written o (mapped single a)
single_given [] a d h p = absurd (omega arith)
single_given (y ∷ []) (Err r) d h p = ap (λ (t : Answer (Unit {0}) × Float). (t.0, single t.1)) p
single_given (y ∷ []) (Ok x) d h p = ap (λ (t : Answer (Unit {0}) × Float). (t.0, single t.1)) p
single_given (y ∷ z ∷ o) a d h p = absurd (omega arith)

single-told : (x : Answer Float) → mapped single x ≡ mapped joined (mapped one_by_one x)
single-told (Err k) = refl
single-told (Ok x) = refl

pub one-long : {n : ℕ} {b : List Float} {s u : Size} → Whole n n b s u → n ≡ 1 → length b ≡ 1
one-long w e = w.long ∙ ap (λ (n : ℕ). n * n) e

-- F of it, which is n by n, is x
pub number-answered : {T : Bool} {n : ℕ} (F : ℕ → Matrix → Answer Matrix) (a o : List Float) (x : Answer Float) {m : Answer Float} {y : Answer (Unit {0}) × List Float}
    → T ≡ true → n ≡ 1 → F 1 (rows 1 1 a) ≡ mapped one_by_one x → m ≡ x → y ≡ written o (mapped single m)
    → y ≡ written o (if_sized T (mapped joined (F n (rows n n a))))
number-answered {T} {n} F a o x t e f h g =
    told (mapped single) (λ b. if_sized b (mapped joined (F n (rows n n a)))) o t h
    (single-told x ∙ ap (mapped joined) (sym f) ∙ ap (λ (k : ℕ). mapped joined (F k (rows k k a))) (sym e)) g

-- ---- the tests of functions by value are passed
pub alike-true : (r c : ℕ) → shaped r c ≡ true → alike r c r c ≡ true
unfolding alike
alike-true r c s = λ i. s i && (eq-eqb r r refl i && eq-eqb c c refl i)

pub paired-true : (n : ℕ) → sized n ≡ true → paired n n ≡ true
unfolding paired
paired-true n s = λ i. s i && eq-eqb n n refl i
