use Rattle.std.proofs.Common.{◌∙◌, sym}
use Rattle.fractions.proofs.Run.{front_from_end}
use Rattle.fractions.proofs.split.split_digits.Goals as goal

pub returns-clause-front : goal.returns-clause-front
returns-clause-front c = c.split_at.ensures.front ∙ sym (front_from_end c.args.text.now c.digits_end.result (record { within = c.digits_end.ensures.within; digits = c.digits_end.ensures.digits; ends = c.digits_end.ensures.ends })).0

pub returns-clause-behind : goal.returns-clause-behind
returns-clause-behind c = c.split_at.ensures.back ∙ sym (front_from_end c.args.text.now c.digits_end.result (record { within = c.digits_end.ensures.within; digits = c.digits_end.ensures.digits; ends = c.digits_end.ensures.ends })).1
