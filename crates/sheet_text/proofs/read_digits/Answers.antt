-- The digits are read one by one, each beside ten times what was read.
use Rattle.std.proofs.Common.{◌≡◌, get_or, arith, sym, ◌∙◌, true}
use Rattle.sheets.specs.Field.{is_digit}
use Rattle.sheets.proofs.Reading.{left_bad, left_step, left_end, digit_small, small-step, small-fits}
use Rattle.sheet_text.proofs.read_digits.Goals as goal

pub returns-then-not-is_ascii_digit : goal.returns-then-not-is_ascii_digit
returns-then-not-is_ascii_digit c =
    sym (left_bad c.args.digits.now c.loop-b.size c.loop-b.b-index c.loop-b-test.true (sym c.is_ascii_digit.ensures.value ∙ c.if-not-is_ascii_digit.true) c.loop-b.invariant.1)

pub overflow_mul-size : goal.overflow_mul-size
overflow_mul-size c =
    let w = small-fits c.loop-b.size c.loop-b.b-index c.loop-b.invariant.0 (omega arith) in
    record { fits = omega arith }

pub overflow_add-size : goal.overflow_add-size
overflow_add-size c =
    let w = small-fits c.loop-b.size c.loop-b.b-index c.loop-b.invariant.0 (omega arith) in
    let d = digit_small (get_or c.args.digits.now c.loop-b.b-index 0) (sym c.is_ascii_digit.ensures.value ∙ c.if-not-is_ascii_digit.false) in
    record { fits = omega (arith, c.from.ensures, d) }

pub loop-b-preserved : goal.loop-b-preserved
loop-b-preserved c =
    let f : is_digit (get_or c.args.digits.now c.loop-b.b-index 0) ≡ true = sym c.is_ascii_digit.ensures.value ∙ c.if-not-is_ascii_digit.false in
    let d = digit_small _ f in
    let e = left_step c.args.digits.now c.loop-b.size c.loop-b.b-index c.loop-b-test.true f c.loop-b.invariant.1 in
    (small-step c.loop-b.size c.from.result c.loop-b.b-index c.loop-b.invariant.0 (rw c.from.ensures d), rw c.from.ensures e)

pub returns : goal.returns
returns c = sym (left_end c.args.digits.now c.loop-b.size c.loop-b.b-index c.loop-b-test.false c.loop-b.invariant.1)
