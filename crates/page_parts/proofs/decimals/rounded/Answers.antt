use Rattle.std.proofs.Common.{rules, ◌≡◌, ◌∙◌, ◌+◌, ◌*◌, ◌<◌, ◌≤◌, ◌/◌, ◌%◌, ℕ, pos, ℤ, sym, ap, ap₂}
use Rattle.std.proofs.lemmas.Nat.{div-add-mod'}
use Rattle.page_parts.specs.Decimals.{thousandths}
use Rattle.page_parts.proofs.DecimalLemmas.{nearest, rounds, thousand_times}
use Rattle.page_parts.proofs.decimals.rounded.Goals as goal

pub returns : goal.returns
returns c =
    let top : ℕ = c.numerator_size-top.result in
    let divisor : ℕ = c.denominator-divisor.result in
    let number = thousand_times top divisor (top / divisor) (top % divisor) c.next_digit-tenths.result.0 c.next_digit-tenths.result.1 c.next_digit-hundredths.result.0 c.next_digit-hundredths.result.1 c.next_digit-last.result.0 c.next_digit-last.result.1
    (sym (div-add-mod' top divisor)) c.next_digit-tenths.ensures.sum c.next_digit-hundredths.ensures.sum c.next_digit-last.ensures.sum in
    let near = rounds top divisor _ (thousandths c.rounded_up.result) c.next_digit-last.result.1 number c.next_digit-last.ensures.rest c.rounded_up.ensures.down c.rounded_up.ensures.up in
    nearest c.args.number.now c.rounded_up.result top divisor c.numerator_size-top.ensures.size c.denominator-divisor.ensures.value c.rounded_up.ensures.part near
