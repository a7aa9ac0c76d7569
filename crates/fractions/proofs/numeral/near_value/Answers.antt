use Rattle.std.proofs.Common.{◌≡◌, ℕ, List, ◌+◌, ◌*◌, ◌-◌, ◌<◌, ◌^◌, length, get_or, take, arith, min}
use Rattle.std.specs.Int.{IsInRange}
use Rattle.std.specs.Str.Parse.{AllDigits, digits_value}
use Rattle.std.proofs.lemmas.Str.{digit_value_digit}
use Rattle.std.proofs.lemmas.Str.Parse.{digit_at}
use Rattle.std.proofs.lemmas.Int.Digits.{digits_value_more}
use Rattle.fractions.proofs.numeral.near_value.Goals as goal

-- one more digit
step : (ds : List ℕ) (i v : ℕ) → AllDigits 10 ds → i < length ds → v ≡ min (digits_value 10 (take i ds)) (10 ^ 20) → min (v * 10 + (get_or ds i 0 - 48)) (10 ^ 20) ≡ min (digits_value 10 (take (i + 1) ds)) (10 ^ 20)
step ds i v h lt e =
    let r : IsInRange 48 57 (get_or ds i 0) = digit_at ds i h lt in
    omega (arith, digits_value_more 10 ds i lt, digit_value_digit (get_or ds i 0) r)

pub overflow_sub-digit : goal.overflow_sub-digit
overflow_sub-digit c =
    let r : IsInRange 48 57 (get_or c.args.digits.now c.loop-digit.digit-index 0) = digit_at _ _ c.requires c.loop-digit-test.true in
    omega (arith, r)

pub loop-digit-preserved : goal.loop-digit-preserved
loop-digit-preserved c =
    let e = step c.args.digits.now c.loop-digit.digit-index c.loop-digit.value c.requires c.loop-digit-test.true c.loop-digit.invariant in
    omega (arith, e, c.min-value.ensures)
