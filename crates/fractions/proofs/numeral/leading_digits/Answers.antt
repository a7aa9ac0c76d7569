use Rattle.std.proofs.Common.{arith, length, take, ◌≡◌, length-append}
use Rattle.std.proofs.lemmas.List.{length-take-le}
use Rattle.std.proofs.lemmas.Str.Parse.{digit_at}
use Rattle.fractions.proofs.Significant.{AllDigits-append, AllDigits-take, leading_small, leading_room}
use Rattle.fractions.proofs.numeral.leading_digits.Goals as goal

pub then-seen-requires-clause-digit : goal.then-seen-requires-clause-digit
then-seen-requires-clause-digit c = digit_at c.args.whole.now c.loop-digit.digit-index c.requires.whole c.loop-digit-test.true

pub then-seen-requires-clause-room : goal.then-seen-requires-clause-room
then-seen-requires-clause-room c =
    let l : length (take c.loop-digit.digit-index c.args.whole.now) ≡ c.loop-digit.digit-index = length-take-le c.loop-digit.digit-index c.args.whole.now (omega arith) in
    omega (arith, leading_room _ c.loop-digit.seen c.loop-digit.invariant, c.requires.room)

pub then-seen-requires-clause-small : goal.then-seen-requires-clause-small
then-seen-requires-clause-small c = leading_small _ c.loop-digit.seen (AllDigits-take c.loop-digit.digit-index c.args.whole.now c.requires.whole) c.loop-digit.invariant

pub then-seen-requires-in-loop-digit-2-clause-digit : goal.then-seen-requires-in-loop-digit-2-clause-digit
then-seen-requires-in-loop-digit-2-clause-digit c = digit_at c.args.part.now c.loop-digit-2.digit-index c.requires.part c.loop-digit-2-test.true

pub then-seen-requires-in-loop-digit-2-clause-room : goal.then-seen-requires-in-loop-digit-2-clause-room
then-seen-requires-in-loop-digit-2-clause-room c =
    let l : length (take c.loop-digit-2.digit-index c.args.part.now) ≡ c.loop-digit-2.digit-index = length-take-le c.loop-digit-2.digit-index c.args.part.now (omega arith) in
    omega (arith, leading_room _ c.loop-digit-2.seen c.loop-digit-2.invariant, c.requires.room, length-append c.args.whole.now (take c.loop-digit-2.digit-index c.args.part.now))

pub then-seen-requires-in-loop-digit-2-clause-small : goal.then-seen-requires-in-loop-digit-2-clause-small
then-seen-requires-in-loop-digit-2-clause-small c =
    leading_small _ c.loop-digit-2.seen (AllDigits-append c.args.whole.now (take c.loop-digit-2.digit-index c.args.part.now) c.requires.whole (AllDigits-take c.loop-digit-2.digit-index c.args.part.now c.requires.part)) c.loop-digit-2.invariant
