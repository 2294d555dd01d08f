-- A subnormal number moved up to 53 digits, by its leading zeros. Assumes nothing.
use mathlib.Core.Path.{◌≡◌, sym, ap, ◌∙◌, subst}
use Prim.Native.Nat.{ℕ, suc, ◌+◌, ◌-◌, ◌*◌, ◌%◌, ◌^◌, ◌≤◌, ◌<◌}
use native.Mathlib.Nat.{le_trans, le_of_eq, lt_of_le_of_lt, mul_assoc, mul-le-mul_right, mod-eq_of_lt}
use native.Mathlib.Omega.{arith}
use lib.Pow.{pow-add, shl_lt}
use lib.Count.{count_leading_zeros, leading_top}
use Rattle.root.specs.Weights.{hidden, past53, patterns}
use Rattle.root.proofs.Scaled.{pow_lt_back}

-- b, moved up by its z leading zeros less 11, has 53 digits
pub record Shifted (b z : ℕ) : Type 0 where
  pub least : 11 ≤ z
  pub most : z ≤ 63
  pub low : hidden ≤ b * 2 ^ (z - 11)
  pub high : b * 2 ^ (z - 11) < past53
  -- the shift drops nothing
  pub kept : b * 2 ^ (z - 11) % patterns ≡ b * 2 ^ (z - 11)
  pub is : b * 2 ^ (z - 11) * 2 ^ (1022 - (z - 11)) ≡ b * 2 ^ 1022

-- z zeros, the highest digit, and j digits below it make 64
by_top : (b z j : ℕ) → z + suc j ≡ 64 → j < 52 → 2 ^ j ≤ b → b < 2 ^ suc j → Shifted b z
by_top b z j e g l h =
    let k = z - 11 in
    let up : j + k ≡ 52 = omega arith in
    let up_suc : suc j + k ≡ 53 = omega arith in
    let all : k + (1022 - k) ≡ 1022 = omega arith in
    let high : b * 2 ^ k < past53 = subst (λ (n : ℕ). b * 2 ^ k < 2 ^ n) up_suc (shl_lt (suc j) k h) in
    record {
      least = omega arith;
      most = omega arith;
      low = le_trans (le_of_eq (ap (λ (n : ℕ). 2 ^ n) (sym up) ∙ pow-add 2 j k)) (mul-le-mul_right (2 ^ k) l);
      high = high;
      kept = mod-eq_of_lt (omega arith);
      is = mul_assoc b (2 ^ k) (2 ^ (1022 - k)) ∙ ap (λ (x : ℕ). b * x) (sym (pow-add 2 k (1022 - k)) ∙ ap (λ (n : ℕ). 2 ^ n) all);
    }

pub shifted : (b : ℕ) → 0 < b → b < hidden → Shifted b (count_leading_zeros 64 b)
shifted b p h =
    let t = leading_top 64 b p (omega arith) in
    by_top b (count_leading_zeros 64 b) t.0 t.1 (pow_lt_back t.0 52 (lt_of_le_of_lt t.2 h)) t.2 t.3
