-- Laws of the sizes: what a test that was passed says, and that slots and buffers are small. Assumes nothing.
use mathlib.Core.Path.{◌≡◌, refl, ap, ◌∙◌, subst⁻¹}
use mathlib.Core.Bool.{Bool, true, false, ◌&&◌}
use Prim.Native.Nat.{ℕ, ◌+◌, ◌*◌, ◌≤◌, ◌<◌}
use native.Mathlib.Nat.{mul-le-mul_left, mul-le-mul_right}
use native.Mathlib.Omega.{arith}
use lib.Dec.{leb}
use borrow.Author.Tests.{leb-true, eqb-true}
use Rattle.std.specs.Prelude.{Ok}
use Rattle.answer.specs.Answer.{Answer, where_sized}
use Rattle.answer.proofs.Choice.{and_left, and_right}
use Rattle.sizes.specs.declared.Size.{Size}
use Rattle.sizes.specs.Size.{count, size_of, sized}
use Rattle.sizes.proofs.Sizes.{Bounds, bounds_of, is_count}
use Rattle.layout.specs.Layout.{pair_length, stride}
use Rattle.layout.proofs.Rows.{ends-within}
use Rattle.duty.specs.Buffer.{roomy, counted, buffered}
use Rattle.duty.specs.Buffer.{smoothable}

-- ---- what a test that was passed says
pub record Counted (n T c : ℕ) : Type 0 where
  pub size : sized n ≡ true
  pub bounds : Bounds n
  pub few : T ≤ 64
  pub within : c ≤ T

pub counted_of : (n T c : ℕ) → counted n T c ≡ true → Counted n T c
unfolding counted roomy
counted_of n T c e =
    let size = and_left _ _ e in
    let rest = and_right (sized n) _ e in
    record {
      size = size;
      bounds = bounds_of n size;
      few = leb-true T 64 (and_right (leb 1 T) _ (and_left _ _ rest));
      within = leb-true c T (and_right (leb 1 T && leb T 64) _ rest);
    }

-- the same of a size s that a test gave
pub record Given (t : Bool) (n : ℕ) (s : Size) : Type 0 where
  pub passed : t ≡ true
  pub size : count s ≡ n

pub given : (t : Bool) (n : ℕ) {s : Size} {o : Answer Size} → (t ≡ true → sized n ≡ true) → o ≡ where_sized t (size_of n) → o ≡ Ok s → Given t n s
given true n h p q = record { passed = refl; size = is_count (h refl) cc }
given false n h p q = cc

pub counted-given : (n T c : ℕ) {s : Size} {o : Answer Size} → o ≡ where_sized (counted n T c) (size_of n) → o ≡ Ok s → Given (counted n T c) n s
counted-given n T c p q = given (counted n T c) n (λ e. (counted_of n T c e).size) p q

pub record Buffered (m n T c : ℕ) : Type 0 where
  pub sizes : Counted n T c
  pub whole : m ≡ T * stride n

pub buffered_of : (m n T c : ℕ) → buffered m n T c ≡ true → Buffered m n T c
unfolding buffered
buffered_of m n T c e = record { sizes = counted_of n T c (and_left _ _ e); whole = eqb-true m (T * stride n) (and_right (counted n T c) _ e) }

pub buffered-given : (m n T c : ℕ) {s : Size} {o : Answer Size} → o ≡ where_sized (buffered m n T c) (size_of n) → o ≡ Ok s → Given (buffered m n T c) n s
buffered-given m n T c p q = given (buffered m n T c) n (λ e. (buffered_of m n T c e).sizes.size) p q

pub record Smoothable (m o n T c : ℕ) : Type 0 where
  pub buffer : Buffered m n T c
  pub output : o ≡ T * pair_length n

pub smoothable_of : (m o n T c : ℕ) → smoothable m o n T c ≡ true → Smoothable m o n T c
unfolding smoothable
smoothable_of m o n T c e = record { buffer = buffered_of m n T c (and_left _ _ e); output = eqb-true o (T * pair_length n) (and_right (buffered m n T c) _ e) }

pub smoothable-given : (m o n T c : ℕ) {s : Size} {r : Answer Size} → r ≡ where_sized (smoothable m o n T c) (size_of n) → r ≡ Ok s → Given (smoothable m o n T c) n s
smoothable-given m o n T c p q = given (smoothable m o n T c) n (λ e. (smoothable_of m o n T c e).buffer.sizes.size) p q

-- ---- slots and buffers are small
pub square-small : {n : ℕ} → n ≤ 4 → n * n ≤ 16
square-small {n} h = omega (arith, mul-le-mul_left n h)

stride-small : {n : ℕ} → n ≤ 4 → stride n ≤ 40
stride-small h = omega (arith, square-small h)

-- part k of c that take s numbers each, which the code has as r, in a buffer of m numbers
pub part_room : {k c r m : ℕ} (s : ℕ) → k < c → c * s ≤ m → r ≡ s → k * r + s ≤ m
part_room {k} {c} {r} {m} s h f e = subst⁻¹ (λ (t : ℕ). k * t + s ≤ m) e (omega (arith, ends-within {k = k} {n = c} s h))

pub buffer-small : {n T : ℕ} → n ≤ 4 → T ≤ 64 → T * stride n ≤ 2560
buffer-small {n} {T} h k = omega (arith, mul-le-mul_right (stride n) k, stride-small h)

pub output-small : {n T : ℕ} → n ≤ 4 → T ≤ 64 → T * pair_length n ≤ 1280
output-small {n} {T} h k = omega (arith, mul-le-mul_right (pair_length n) k, square-small h)

-- what the pass asks for, where the sizes are right and a slot is stored: s is the size as the code has it
pub passable : {m o n T c s : ℕ} → Smoothable m o n T c → 1 ≤ c → s ≡ n → (1 ≤ c) × (c ≤ 64) × (c * stride s ≤ m) × (c * pair_length s ≤ 1280)
passable {m} {o} {n} {T} {c} t h e =
    let f = t.buffer.sizes in
    subst⁻¹ (λ (s : ℕ). (1 ≤ c) × (c ≤ 64) × (c * stride s ≤ m) × (c * pair_length s ≤ 1280)) e
    (h, omega (arith, f), omega (arith, t.buffer.whole, mul-le-mul_right (stride n) f.within), output-small f.bounds.most (omega (arith, f)))

-- ---- parts as long as the code has them, r, by the size that a test gave
pub record Long (l T r m : ℕ) : Type 0 where
  pub is : r ≡ l
  pub small : T * r ≤ m

-- slots
pub slots_given : (n T c : ℕ) {s : Size} {o : Answer Size} {r : ℕ} → o ≡ where_sized (counted n T c) (size_of n) → o ≡ Ok s → r ≡ stride (count s) → Long (stride n) T r 2560
slots_given n T c {r = r} p q e =
    let g = counted-given n T c p q in
    let t = counted_of n T c g.passed in
    let is : r ≡ stride n = e ∙ ap stride g.size in
    record { is = is; small = rw is (buffer-small t.bounds.most t.few) }

-- pairs
pub pairs_given : (m n T c : ℕ) {s : Size} {o : Answer Size} {r : ℕ} → o ≡ where_sized (buffered m n T c) (size_of n) → o ≡ Ok s → r ≡ pair_length (count s) → Long (pair_length n) T r 1280
pairs_given m n T c {r = r} p q e =
    let g = buffered-given m n T c p q in
    let t = (buffered_of m n T c g.passed).sizes in
    let is : r ≡ pair_length n = e ∙ ap pair_length g.size in
    record { is = is; small = rw is (output-small t.bounds.most t.few) }

-- slot k of T lies within the buffer
pub slot_ends : (m n T c : ℕ) {k : ℕ} → buffered m n T c ≡ true → k < T → k * stride n + stride n ≤ m
slot_ends m n T c {k} e h = omega (arith, ends-within {k = k} {n = T} (stride n) h, (buffered_of m n T c e).whole)

-- one that is stored, by the size that the test gave
pub slot_within : (m n T c : ℕ) {s : Size} {o : Answer Size} {k : ℕ} → o ≡ where_sized (buffered m n T c) (size_of n) → o ≡ Ok s → k < c → k * stride (count s) + stride (count s) ≤ m
slot_within m n T c p q h =
    let g = buffered-given m n T c p q in
    rw g.size (slot_ends m n T c g.passed (omega (arith, h, (buffered_of m n T c g.passed).sizes.within)))
