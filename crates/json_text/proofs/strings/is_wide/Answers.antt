use Rattle.std.proofs.Common.{◌∙◌, sym, arith}
use Rattle.json_text.proofs.strings.is_wide.Goals as goal

pub returns : goal.returns
returns c = λ e. record { within = omega arith; first = sym c.begins_wide.ensures ∙ c.if-not-begins_wide.false; second = sym c.is_tail.ensures ∙ c.if-not-is_tail.false; third = sym c.is_tail-2.ensures ∙ e }
