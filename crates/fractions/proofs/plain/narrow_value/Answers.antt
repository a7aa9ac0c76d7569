use Rattle.std.proofs.Common.{◌≡◌, ℕ, List, ◌+◌, ◌*◌, ◌-◌, ◌<◌, length, get_or, take, arith, lit≤}
use Rattle.std.specs.Int.{IsInRange}
use Rattle.std.specs.Str.Parse.{AllDigits, digits_value}
use Rattle.std.proofs.lemmas.Str.{digit_value_digit}
use Rattle.std.proofs.lemmas.Str.Parse.{digit_at, digits_value-take-le}
use Rattle.std.proofs.lemmas.Int.Digits.{digits_value_more}
use Rattle.fractions.proofs.plain.narrow_value.Goals as goal

-- one more digit
step : (ds : List ℕ) (i v : ℕ) → AllDigits 10 ds → i < length ds → v ≡ digits_value 10 (take i ds) → v * 10 + (get_or ds i 0 - 48) ≡ digits_value 10 (take (i + 1) ds)
step ds i v h lt e =
    let r : IsInRange 48 57 (get_or ds i 0) = digit_at ds i h lt in
    omega (arith, digits_value_more 10 ds i lt, digit_value_digit (get_or ds i 0) r)

pub overflow_sub-value : goal.overflow_sub-value
overflow_sub-value c =
    let r : IsInRange 48 57 (get_or c.args.digits.now c.loop-digit.digit-index 0) = digit_at _ _ c.requires c.loop-digit-test.true in
    omega (arith, r)

pub returns-then-value : goal.returns-then-value
returns-then-value c small =
    let e = step c.args.digits.now c.loop-digit.digit-index c.loop-digit.value c.requires c.loop-digit-test.true c.loop-digit.invariant.0 in
    omega (arith, e, small, digits_value-take-le 10 c.args.digits.now (c.loop-digit.digit-index + 1) (lit≤ tt), c.if-value.true)

pub returns-then-value-gt-MOST : goal.returns-then-value-gt-MOST
returns-then-value-gt-MOST c small =
    let e = step c.args.digits.now c.loop-digit.digit-index c.loop-digit.value c.requires c.loop-digit-test.true c.loop-digit.invariant.0 in
    omega (arith, e, small, digits_value-take-le 10 c.args.digits.now (c.loop-digit.digit-index + 1) (lit≤ tt), c.if-value-gt-MOST.true)

pub loop-digit-preserved : goal.loop-digit-preserved
loop-digit-preserved c =
    (step c.args.digits.now c.loop-digit.digit-index c.loop-digit.value c.requires c.loop-digit-test.true c.loop-digit.invariant.0, omega (arith, c.if-value-gt-MOST.false))
