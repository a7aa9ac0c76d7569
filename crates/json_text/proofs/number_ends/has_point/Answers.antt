use Rattle.std.proofs.Common.{◌∙◌, ap, sym, arith, Some}
use Rattle.json_text.proofs.Digits.{point_on}
use Rattle.json_text.proofs.number_ends.has_point.Goals as goal

pub returns-in-Some-Dot : goal.returns-in-Some-Dot
returns-in-Some-Dot c = λ e. (omega arith, point_on c.args.bytes.now c.args.at c.args.phase (omega arith) (sym c.number_next.ensures ∙ c.in-Some-Dot.is ∙ ap Some c.in-Some-Dot.field-0-is) (sym c.is_digit.ensures ∙ e))
