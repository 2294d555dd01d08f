-- The square root of a binary64, correctly rounded. Definitions only; what a reader is to believe of it stands in Nearest.antt.
use Rattle.std.specs.Prelude.{ℕ, zero, suc, ◌+◌, ◌-◌, ◌*◌, ◌/◌, ◌^◌, true, false, cond, ltb, Float}
use Rattle.std.specs.Float.{nan, inf, fin}
use Rattle.std.specs.Float.Ieee.{up, down, size, odd}

-- the largest s with s * s ≤ a, for an a below 4 ^ d: one binary digit of the root for each two of a
unfoldable pub isqrt : ℕ → ℕ → ℕ
isqrt zero a = 0
isqrt (suc d) a = let s = 2 * isqrt d (a / 4) in cond (ltb a ((s + 1) * (s + 1))) s (s + 1)

-- The whole number nearest the exact root of a, for an a below 4 ^ 53. The exact root is never halfway, since 4 * a is no odd square.
unfoldable pub nearest_root : ℕ → ℕ
unfolding isqrt
nearest_root a = (isqrt 54 (a * 4) + 1) / 2

-- a finite value as a whole number, in units of the smallest positive value, 2 ^ -1074
unfoldable pub as_whole : Float → ℕ
as_whole nan = 0
as_whole (inf s) = 0
as_whole (fin s m e) = m * up e * 2 ^ 1074 / down e

-- The root of w * 2 ^ -2148, which is the root of w in units of 2 ^ -1074. Of w's digits an even number, 2 * k, is dropped, and 105 or 106 are kept, so that the root has 53.
unfoldable pub root_of : ℕ → Float
unfolding nearest_root size odd
root_of w = let k = (size w - 105) / 2 in odd 53 false (nearest_root (w / 4 ^ k)) k 1074

unfoldable pub root : Float → Float
unfolding root_of as_whole
root nan = nan
root (inf true) = nan
root (inf false) = inf false
root (fin s zero e) = fin s zero e
root (fin true (suc m) e) = nan
root (fin false (suc m) e) = root_of (as_whole (fin false (suc m) e) * 2 ^ 1074)
