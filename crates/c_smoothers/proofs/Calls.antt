-- The smoother's slices: what their tests say, and what a store and a slot handed out leave. Assumes nothing.
use mathlib.Core.Path.{◌≡◌, refl, sym, ap, ap₂, ◌∙◌}
use mathlib.Core.List.{List, ◌++◌}
use mathlib.Core.Bool.{Bool, true, false, ◌&&◌}
use Prim.Native.Nat.{ℕ, ◌+◌, ◌*◌, ◌≤◌, ◌<◌}
use native.Mathlib.Omega.{arith}
use lib.ListN.{length, take, drop, length-take, length-drop}
use lib.Ieee.{Float}
use lib.Dec.{leb}
use borrow.Author.Tests.{eqb-true, leb-false, lt-leb}
use Rattle.std.specs.Prelude.{Ok}
use Rattle.answer.specs.declared.Refusal.{Refusal}
use Rattle.answer.specs.declared.Refusal.TheVariants.{BufferFull, IndexOutOfRange}
use Rattle.answer.specs.Told.{written}
use Rattle.answer.specs.Answer.{Answer, mapped, where_sized, if_sized, refused_if}
use Rattle.answer.proofs.Answers.{passed as passed_first}
use Rattle.answer.proofs.Choice.{and_left, and_right}
use Rattle.algebra.specs.Matrix.{Matrix}
use Rattle.algebra.specs.Array.{used, pad}
use Rattle.sizes.specs.declared.Size.{Size}
use Rattle.sizes.specs.Size.{sized, size_of, count}
use Rattle.layout.specs.Layout.{matrix_at, matrix_in, placed, put_at, pair_length, stride}
use Rattle.layout.proofs.Places.{placed-whole, then-placed}
use Rattle.layout.proofs.Calls.{matrix-used, slice-put}
use Rattle.smoothing.specs.Smoother.{smooth}
use Rattle.duty.specs.Buffer.{duty_of, output_of, buffered, smoothable, stored_slot}
use Rattle.duty.specs.Passed.{smooth_of}
use Rattle.duty.proofs.Sizes.{Given, given as size-given, buffered_of, buffer-small, slot_ends}
use Rattle.c_smoothers.specs.Smoother.{is_pairs, is_square, storable, store_in, slot_in, smooth_in}

-- ---- where a call's tests are passed, x stands in the lent place, which held o
pub passed : {A : Type 0} {t u : Bool} (o : A) (k : Refusal) (x : A) {y : A} → t ≡ true → u ≡ false → y ≡ x → (Ok tt, y) ≡ written o (if_sized t (refused_if u k x))
passed {A} o k x p q e = ap (λ (y : A). (Ok tt, y)) e ∙ sym (ap₂ (λ (t u : Bool). written o (if_sized t (refused_if u k x))) p q)

-- ---- what the tests of one slice say
pairs_of : (n k m : ℕ) → is_pairs n k m ≡ true → m ≡ k * pair_length n
unfolding is_pairs
pairs_of n k m e = eqb-true m (k * pair_length n) (and_right (sized n) _ e)

pub square_of : (n m : ℕ) → is_square n m ≡ true → (sized n ≡ true) × (m ≡ n * n)
unfolding is_square
square_of n m e = (and_left _ _ e, eqb-true m (n * n) (and_right (sized n) _ e))

-- ---- a store: the slot lies within the slots; r is the stride as the code has it
pub record Storing (n c r : ℕ) (b f p : List Float) : Type 0 where
  pub is : r ≡ stride n
  pub first : length f ≡ pair_length n
  pub second : length p ≡ pair_length n
  pub within : c * r + stride n ≤ length b
  pub small : c * r + stride n ≤ 2560

module _ (n T c : ℕ) (b f p : List Float) where
  abbrev fits : Bool
  fits = storable n T c (length b) (length f) (length p)

  slots_fit : fits ≡ true → buffered (length b) n T c ≡ true
  slots_fit e = and_right (is_pairs n 1 (length f) && is_pairs n 1 (length p)) _ e

  -- s is the size that the test gave
  module _ {s : Size} {q : Answer Size} {r : ℕ} (e : q ≡ where_sized fits (size_of n)) (d : q ≡ Ok s) (h : c < T) (g : r ≡ stride (count s)) where
    given : Given fits n s
    given = size-given fits n (λ w. (buffered_of (length b) n T c (slots_fit w)).sizes.size) e d

    pub storing : Storing n c r b f p
    storing =
        let pairs = and_left _ _ given.passed in
        let B = buffered_of (length b) n T c (slots_fit given.passed) in
        let is : r ≡ stride n = g ∙ ap stride given.size in
        let ends = slot_ends (length b) n T c (slots_fit given.passed) h in
        let here : c * r ≡ c * stride n = ap (λ (r : ℕ). c * r) is in
        record {
          is = is;
          first = pairs_of n 1 (length f) (and_left _ _ pairs) ∙ omega arith;
          second = pairs_of n 1 (length p) (and_right (is_pairs n 1 (length f)) _ pairs) ∙ omega arith;
          within = omega (arith, ends, here);
          small = omega (arith, ends, here, B.whole, buffer-small B.sizes.bounds.most B.sizes.few);
        }

    -- b₂ is what the two copies leave
    pub store_done : {b₁ b₂ : List Float} → length b₁ ≡ length b → b₁ ≡ put_at (c * r) f b → b₂ ≡ put_at (c * r + length f) p b₁
        → (Ok tt, (c + 1, b₂)) ≡ written (c, b) (store_in n T c b f p)
    store_done {b₁} l d₁ d₂ =
        let w = storing.within in
        let first = slice-put (c * r) b f (omega (arith, w, storing.first)) d₁ in
        let second = slice-put (c * r + length f) b₁ p (omega (arith, w, storing.first, storing.second, l)) d₂ in
        let both = then-placed f p b (omega (arith, w)) refl first second ∙ ap (λ (k : ℕ). placed (c * k) (f ++ p) b) storing.is in
        passed (c, b) BufferFull (c + 1, placed (c * stride n) (f ++ p) b) given.passed (lt-leb T c h) (λ i. (c + 1, both i))

-- ---- a slot handed out
handed_out : {A : Type 0} (t u : Bool) (x : A) {y : A} → Ok y ≡ if_sized t (refused_if u IndexOutOfRange x) → (t ≡ true) × (u ≡ false) × (y ≡ x)
handed_out true false x e = (refl, refl, cc)
handed_out true true x e = cc
handed_out false u x e = cc

-- q is what the test of o's length gave, and l the slot
pub slot-copied : (n T c k : ℕ) (b o : List Float) {q : Answer Size} {s : Size} {l o₁ : List Float} → q ≡ where_sized (is_pairs n 2 (length o)) (size_of n) → q ≡ Ok s
    → Ok l ≡ stored_slot n T c b k → o₁ ≡ put_at 0 l o → (Ok tt, o₁) ≡ written o (slot_in n T c b k (length o))
slot-copied n T c k b o {l = l} e d f p =
    let two = passed_first (is_pairs n 2 (length o)) (size_of n) (sym e ∙ d) in
    let (t, u, is) = handed_out (buffered (length b) n T c) (leb c k) (take (stride n) (drop (k * stride n) b)) f in
    let B = buffered_of (length b) n T c t in
    let ends = slot_ends (length b) n T c {k = k} t (omega (arith, leb-false c k u, B.sizes.within)) in
    let long : length l ≡ stride n = rw is (simp (length-take, length-drop) (omega (arith, ends))) in
    let room : length o ≡ stride n = pairs_of n 2 (length o) two ∙ omega arith in
    passed o IndexOutOfRange (take (stride n) (drop (k * stride n) b)) (λ i. two i && t i) u (slice-put 0 o l (omega (arith, long, room)) p ∙ placed-whole l o (long ∙ sym room) ∙ is)

-- ---- smoothing: s is the size and F the transition as the code has them, and w what the pass tells and leaves
pub smooth-passed : (n T c : ℕ) (b f o : List Float) (s : Size) {F : List (List Float)} {w : Answer Unit × List Float} → is_square n (length f) ≡ true → count s ≡ n
    → F ≡ pad (matrix_in (count s) (count s) f 0) → w ≡ smooth_of n T c b F o → w ≡ written o (smooth_in n T c b f (length o))
smooth-passed n T c b f o s {F = F} e N ef eo =
    let long = (square_of n (length f) e).1 in
    let isF : used n n F ≡ matrix_at n n f 0 = ap (λ (m : ℕ). used m m F) (sym N) ∙ matrix-used 0 f N N (omega (arith, long)) ef in
    eo
    ∙ ap (λ (A : Matrix). written o (if_sized (smoothable (length b) (length o) n T c) (mapped (output_of n T) (smooth (duty_of n A b c))))) isF
    ∙ ap (λ (u : Bool). written o (if_sized (u && smoothable (length b) (length o) n T c) (mapped (output_of n T) (smooth (duty_of n (matrix_at n n f 0) b c))))) (sym e)
