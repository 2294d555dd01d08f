-- `root::is_nearest` meets its contract: q is split into two halves, whose products fit; by them the last two tests are those of the nearest root.
use mathlib.Core.Path.{◌≡◌, subst}
use Prim.Native.Nat.{ℕ, ◌+◌, ◌*◌, ◌/◌, ◌%◌, ◌^◌, ◌≤◌, ◌<◌}
use native.Mathlib.Nat.{div-add-mod', sub-add_cancel}
use native.Mathlib.Omega.{arith}
use borrow.Author.Tests.{leb-true}
use Rattle.root.specs.Weights.{hidden, past54}
use Rattle.root.specs.Root.{nearest_root}
use Rattle.root.proofs.Whole.{nearest_of}
use Rattle.root.proofs.is_nearest.Goals as goal

-- the weight of the upper half
abbrev base : ℕ
base = 2 ^ 26

-- with q = h * base + l, the last two tests compare m * 2 ^ 52 and the square of q
over : (h l m d g : ℕ) → d + h * h ≡ m → g + h * l ≡ d * 2 ^ 25 + 2 ^ 27 → l * l + past54 < g * 2 ^ 27 + (h * base + l)
    → (h * base + l) * (h * base + l) < m * hidden + (h * base + l)
over h l m d g x y z = omega arith

under : (h l m d g : ℕ) → d + h * h ≡ m → g + h * l ≡ d * 2 ^ 25 + 2 ^ 27 → g * 2 ^ 27 + (h * base + l) ≤ l * l + past54 + (h * base + l) * 2
    → m * hidden ≤ (h * base + l) * (h * base + l) + (h * base + l)
under h l m d g x y z = omega arith

finish : (m h l d g q : ℕ) → m < past54 → h * base + l ≡ q → d + h * h ≡ m → g + h * l ≡ d * 2 ^ 25 + 2 ^ 27 → l * l + past54 < g * 2 ^ 27 + q
    → g * 2 ^ 27 + q ≤ l * l + past54 + q * 2 → nearest_root (m * hidden) ≡ q
finish m h l d g q s is x y u v =
    nearest_of (m * hidden) q (omega arith)
    (subst (λ (n : ℕ). l * l + past54 < g * 2 ^ 27 + n → n * n < m * hidden + n) is (over h l m d g x y) u)
    (subst (λ (n : ℕ). g * 2 ^ 27 + n ≤ l * l + past54 + n * 2 → m * hidden ≤ n * n + n) is (under h l m d g x y) v)

pub returns-then-v-u : goal.returns-then-v-u
returns-then-v-u c t =
    let q = c.args.q in
    finish c.args.m (q / base) (q % base) _ _ q c.requires.0 (div-add-mod' q base) (sub-add_cancel c.if-m-hh.false) (sub-add_cancel c.if-t-hl.false) c.if-v-u.true (leb-true _ _ t)
