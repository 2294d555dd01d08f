-- `root::digits` meets its contract.
use mathlib.Core.Path.{◌≡◌, sym, ap, ◌∙◌}
use Prim.Native.Nat.{ℕ, ◌+◌, ◌*◌, ◌^◌, ◌≤◌, ◌<◌}
use native.Mathlib.Nat.{pow-suc, pow-succ', mul_left_comm, lt_of_lt_of_le, le_of_suc-le-suc, le_antisymm}
use native.Mathlib.Numerals.{add-one}
use native.Mathlib.Omega.{arith}
use borrow.Author.Rules.{rules}
use lib.Pow.{pow_mono}
use Rattle.root.specs.Weights.{past53, past54}
use Rattle.root.specs.Part.{radicand}
use Rattle.root.proofs.Whole.{isqrt_of}
use Rattle.root.proofs.digits.Goals as goal

within : (s i : ℕ) → s < 2 ^ i → i < 54 → s < past53
within s i h k = lt_of_lt_of_le h (pow_mono (le_of_suc-le-suc k))

doubled : (s t i : ℕ) → s < 2 ^ i → t ≤ s + s + 1 → t < 2 ^ (i + 1)
doubled s t i h k = omega (arith, ap (λ (n : ℕ). 2 ^ n) (add-one i) ∙ pow-suc 2 i)

times-four : (m i a b : ℕ) → a ≡ 4 * b → b ≡ m * 4 ^ i → a ≡ m * 4 ^ (i + 1)
times-four m i a b h k = h ∙ ap (λ (x : ℕ). 4 * x) k ∙ mul_left_comm 4 m (4 ^ i) ∙ ap (λ (x : ℕ). m * x) (sym (ap (λ (n : ℕ). 4 ^ n) (add-one i) ∙ pow-succ' 4 i))

at_end : (m i a : ℕ) → i ≤ 54 → 54 ≤ i → a ≡ m * 4 ^ i → a ≡ m * (2 ^ 108)
at_end m i a h k e = e ∙ ap (λ (n : ℕ). m * 4 ^ n) (le_antisymm h k)

all-used : (m z l : ℕ) → l < past54 → z * past54 + l ≡ m * (2 ^ 108) → z ≡ m * past54
all-used m z l h e = omega arith

bounded : (m : ℕ) → m < past54 → m * past54 < 4 ^ 54
bounded m h = omega arith

pub digit-p-requires : goal.digit-p-requires
digit-p-requires c =
    let v = c.loop.invariant in
    record { small = within c.loop.p.root c.loop.counter v.1 c.loop-test.true; rest_le = v.2; left_lt = v.3 }

pub loop-preserved : goal.loop-preserved
loop-preserved c =
    let v = c.loop.invariant in
    let s = c.digit-p.ensures in
    let p = c.loop.p in
    let r = c.digit-p.result in
    let i = c.loop.counter in
    (search rules, doubled p.root r.root i v.1 s.root_le, s.rest_le, s.left_lt, times-four c.args.m i (radicand r) (radicand p) s.grown v.4)

pub returns : goal.returns
returns c =
    let v = c.loop.invariant in
    let p = c.loop.p in
    let m = c.args.m in
    isqrt_of 54 (m * past54) p.root p.rest (bounded m c.requires)
    (all-used m (p.root * p.root + p.rest) p.left v.3 (at_end m c.loop.counter (radicand p) v.0 c.loop-test.false v.4))
    v.2
