-- A position is rounded down by its whole part.
use Rattle.std.proofs.Common.{◌≡◌, true, false, w64, ℤ, pos, ◌-ℤ◌, ap, sym, ◌∙◌, to_z, of_z, arith}
use Rattle.std.specs.Prelude.{Option, Some}
use Rattle.std.proofs.lemmas.Int.{ints}
use lib.Ieee.{Float, of_bits, neg, lt, of_int, binary64}
use Rattle.sheets.specs.Metres.{metres_of}
use Rattle.sheet_text.proofs.Floor.{asked, too_low, too_high, Floored, floored}
use Rattle.sheet_text.proofs.metres.whole_metres.Goals as goal
use Rattle.sheet_text.proofs.metres.whole_metres.Goals.{else-x-via-then-x+else-x-2, else-x-via-else-x}

pub truncating_f64_to_i64-whole-requires : goal.truncating_f64_to_i64-whole-requires
unfolding of_bits neg
truncating_f64_to_i64-whole-requires c =
    let h = asked c.args.x c.if-x.true c.if-x-2.true in
    record { lower_bound = h.0; upper_bound = h.1 }

-- what is said of the whole part z, and of the float n that is nearest to it
module _ (x : Float) (z : ℤ) (n : Float) (f : Floored x z) (e : n ≡ of_int binary64 (to_z w64 (of_z w64 z))) where
  same : to_z w64 (of_z w64 z) ≡ z
  same = omega (arith, ints)

  test : lt x n ≡ lt x (of_int binary64 z)
  test = rw (e, same)

  less : lt x n ≡ true → Some (to_z w64 (of_z w64 (to_z w64 (of_z w64 z) -ℤ pos 1))) ≡ metres_of x
  less t =
      let i : to_z w64 (of_z w64 (to_z w64 (of_z w64 z) -ℤ pos 1)) ≡ z -ℤ pos 1 = omega (arith, ints) in
      ap {B = Option ℤ} Some i ∙ sym (f.less (sym test ∙ t))

  as_is : lt x n ≡ false → Some (to_z w64 (of_z w64 z)) ≡ metres_of x
  as_is t = ap {B = Option ℤ} Some same ∙ sym (f.same (sym test ∙ t))

pub overflow_sub-result : goal.overflow_sub-result
unfolding of_bits neg
overflow_sub-result c =
    let f : Floored c.args.x c.truncating_f64_to_i64-whole.result = rw c.truncating_f64_to_i64-whole.ensures (floored c.args.x c.if-x.true c.if-x-2.true) in
    omega (arith, ints)

pub returns-then-x-nearest_i64_to_f64 : goal.returns-then-x-nearest_i64_to_f64
unfolding of_bits neg
returns-then-x-nearest_i64_to_f64 c =
    let f : Floored c.args.x c.truncating_f64_to_i64-whole.result = rw c.truncating_f64_to_i64-whole.ensures (floored c.args.x c.if-x.true c.if-x-2.true) in
    less c.args.x c.truncating_f64_to_i64-whole.result c.nearest_i64_to_f64.result f c.nearest_i64_to_f64.ensures c.if-x-nearest_i64_to_f64.true

pub returns-else-x-nearest_i64_to_f64 : goal.returns-else-x-nearest_i64_to_f64
unfolding of_bits neg
returns-else-x-nearest_i64_to_f64 c =
    let f : Floored c.args.x c.truncating_f64_to_i64-whole.result = rw c.truncating_f64_to_i64-whole.ensures (floored c.args.x c.if-x.true c.if-x-2.true) in
    as_is c.args.x c.truncating_f64_to_i64-whole.result c.nearest_i64_to_f64.result f c.nearest_i64_to_f64.ensures c.if-x-nearest_i64_to_f64.false

pub returns-else-x : goal.returns-else-x
unfolding of_bits neg
returns-else-x c =
    elim c.else-x.branch [
      | else-x-via-then-x+else-x-2 w ↦ sym (too_high c.args.x w.if-x-2.false)
      | else-x-via-else-x w ↦ sym (too_low c.args.x w.if-x.false)
    ]
