use Rattle.std.proofs.Common.{sym, subst}
use Rattle.std.specs.Prelude.{slice_range}
use Rattle.json_text.specs.Cutting.{Phases}
use Rattle.json_text.proofs.Digits.{no_phase, whole_on}
use Rattle.json_text.proofs.number_ends.whole_end.Goals as goal

pub returns-in-Whole-clause-phases : goal.returns-in-Whole-clause-phases
returns-in-Whole-clause-phases c = let xs = slice_range c.args.bytes.now c.args.at c.digits_end.result in subst (λ p. Phases p xs p) (sym c.in-Whole.is) (whole_on xs c.digits_end.ensures.digits)

pub returns-in_default-clause-phases : goal.returns-in_default-clause-phases
returns-in_default-clause-phases c = no_phase c.args.bytes.now c.args.at c.args.phase
