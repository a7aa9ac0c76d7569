use Rattle.std.proofs.Common.{arith, ◌+◌}
use Rattle.std.specs.Prelude.{slice_range}
use Rattle.json_text.specs.declared.number.Phase.TheVariants.{Fraction}
use Rattle.json_text.proofs.Digits.{fraction_on, phases_join}
use Rattle.json_text.proofs.number_ends.digits_further.Goals as goal

pub returns-then-has_point-clause-phases : goal.returns-then-has_point-clause-phases
returns-then-has_point-clause-phases c =
    let bytes = c.args.bytes.now in
    let at = c.args.at in
    let whole = c.whole_end-whole.result in
    let end = c.digits_end.result in
    let point = c.has_point.ensures c.if-has_point.true in
    let p = c.args.phase in
    phases_join bytes at whole end p p Fraction (omega arith) (omega (arith, c.digits_end.ensures.behind)) c.digits_end.ensures.within c.whole_end-whole.ensures.phases
    (phases_join bytes whole (whole + 2) end p Fraction Fraction (omega arith) c.digits_end.ensures.behind c.digits_end.ensures.within point.1 (fraction_on (slice_range bytes (whole + 2) end) c.digits_end.ensures.digits))
