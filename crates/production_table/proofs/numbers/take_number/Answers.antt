use Rattle.std.proofs.Common.{◌∙◌, List, sym, ap}
use Rattle.std.specs.Prelude.{position}
use Rattle.fractions.specs.Fraction.{Fraction}
use Rattle.plan_base.specs.declared.ids.GoodId.{GoodId}
use Rattle.production_table.specs.Numbers.{is_pair_of}
use Rattle.production_table.proofs.NumberLemmas.{taken_is, taken_none}
use Rattle.production_table.proofs.numbers.take_number.Goals as goal

pub returns-in-Some : goal.returns-in-Some
returns-in-Some c =
    c.remove-taken.ensures.items
    ∙ sym (taken_is c.args.good c.args.pairs.now.items c.in-Some.place
    (ap (λ (ps : List (GoodId × Fraction)). position (is_pair_of c.args.good) ps) (sym c.as_slice.ensures.value) ∙ sym c.find.ensures ∙ c.in-Some.is))

pub returns-in-None : goal.returns-in-None
returns-in-None c =
    sym (taken_none c.args.good c.args.pairs.now.items
    (ap (λ (ps : List (GoodId × Fraction)). position (is_pair_of c.args.good) ps) (sym c.as_slice.ensures.value) ∙ sym c.find.ensures ∙ c.in-None.is))
