-- One field of a sheet: a whole number in eight bytes, read and written. It is right-justified with spaces, a minus stands directly before
-- the digits, and there are no leading zeros, no -0 and no blank field. Byte 32 is a space, 45 a minus, 48 to 57 are the digits. Definitions only.
use Rattle.std.specs.Prelude.{Bool, true, false, not, ◌&&◌, ◌||◌, cond, List, [], ◌∷◌, ℕ, zero, suc, ◌+◌, ◌-◌, ◌*◌, ◌/◌, ◌%◌, ◌^◌, leb, eqb, ℤ, pos, negsuc, length, Option, None, Some}

-- ---- reading

abbrev pub is_digit : ℕ → Bool
is_digit b = leb 48 b && leb b 57

unfoldable pub all_digits : List ℕ → Bool
all_digits [] = true
all_digits (b ∷ bs) = is_digit b && all_digits bs

-- the number that digits say, each worth its power of ten
unfoldable pub decimal : List ℕ → ℕ
decimal [] = 0
decimal (b ∷ bs) = (b - 48) * 10 ^ length bs + decimal bs

-- a zero with digits after it
abbrev pub leading_zero : ℕ → List ℕ → Bool
leading_zero b bs = eqb b 48 && not (eqb (length bs) 0)

-- digits that say a number: at least one, nothing else, and no leading zero
unfoldable pub read_digits : List ℕ → Option ℕ
read_digits [] = None
read_digits (b ∷ bs) = cond (leading_zero b bs) None (cond (all_digits (b ∷ bs)) (Some (decimal (b ∷ bs))) None)

abbrev pub positive : Option ℕ → Option ℤ
positive None = None
positive (Some m) = Some (pos m)

-- a number below zero: there is no -0
abbrev pub negative : Option ℕ → Option ℤ
negative None = None
negative (Some zero) = None
negative (Some (suc n)) = Some (negsuc n)

-- spaces, then a minus or none, then digits
unfoldable pub read_field : List ℕ → Option ℤ
read_field [] = None
read_field (b ∷ bs) = cond (eqb b 32) (read_field bs) (cond (eqb b 45) (negative (read_digits bs)) (positive (read_digits (b ∷ bs))))

-- ---- writing

-- column k, counted from the right and from 0, has a digit: the last one always, another where the number reaches its power of ten
abbrev pub reaches : ℕ → ℕ → Bool
reaches k m = eqb k 0 || leb (10 ^ k) m

-- column k of a number of size m, below zero where s is true: a digit, the minus directly before the digits, or a space
unfoldable pub column : Bool → ℕ → ℕ → ℕ
column s k m = cond (reaches k m) (48 + m / 10 ^ k % 10) (cond (s && reaches (k - 1) m) 45 32)

-- the last k columns
unfoldable pub columns : Bool → ℕ → ℕ → List ℕ
columns s zero m = []
columns s (suc k) m = column s k m ∷ columns s k m

unfoldable pub write_field : ℤ → List ℕ
write_field (pos m) = columns false 8 m
write_field (negsuc n) = columns true 8 (suc n)

-- the numbers that eight columns hold
abbrev pub holds : ℤ → Bool
holds (pos m) = leb m 99999999
holds (negsuc n) = leb (suc n) 9999999
