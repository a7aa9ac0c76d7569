use Rattle.std.proofs.Common.{◌∙◌, ◌*ℤ◌, ◌*◌, ◌/◌, sym}
use Rattle.fractions.specs.Fraction.{◌*ʳ◌}
use Rattle.fractions.proofs.Parts.{wrap, wrap_same, narrow_same}
use Rattle.fractions.proofs.Lowest.{IsLowest, mul_parts, lowest_stored, lowest_same, lowest_narrow, lowest_num_narrow, lowest_den_narrow}
use Rattle.fractions.proofs.ratio.Ratio.long_product.Goals.{After-whole_product}
use Rattle.fractions.proofs.ratio.Ratio.long_product.Goals as goal

parts : (c : After-whole_product) → IsLowest (wrap c.divided.result *ℤ wrap c.divided-2.result) (c.natural_denominator-b.result / c.greatest_common_divisor-right.result * (c.natural_denominator-d.result / c.greatest_common_divisor-left.result)) (c.args.self.now *ʳ c.args.other.now)
parts c =
    mul_parts c.args.self.now c.args.other.now c.numerator-a.result c.numerator-c.result c.divided.result c.divided-2.result c.natural_denominator-b.result c.natural_denominator-d.result c.unsigned_abs.result c.unsigned_abs-2.result c.greatest_common_divisor-left.result c.greatest_common_divisor-right.result
    c.numerator-a.ensures.value c.numerator-a.ensures.narrow c.natural_denominator-b.ensures.value c.numerator-c.ensures.value c.numerator-c.ensures.narrow c.natural_denominator-d.ensures.value
    c.unsigned_abs.ensures.value c.greatest_common_divisor-left.ensures.exact c.unsigned_abs-2.ensures.value c.greatest_common_divisor-right.ensures.exact c.divided.ensures c.divided-2.ensures

pub returns-in_default : goal.returns-in_default
returns-in_default c w = c.in_default.ensures (lowest_num_narrow _ _ _ (parts (goal.at.returns-in_default c).After-whole_product) w)

pub returns-in_default-natural_product : goal.returns-in_default-natural_product
returns-in_default-natural_product c w = c.in_default-natural_product.ensures (lowest_den_narrow _ _ _ (parts (goal.at.returns-in_default-natural_product c).After-whole_product) w)

pub stored-requires : goal.stored-requires
stored-requires c =
    let p = c.in-Ok.ensures in
    let q = c.in-Ok-natural_product.ensures in
    lowest_stored _ _ _ _ _ (parts (goal.at.stored-requires c).After-whole_product) p.0 q.0 (wrap_same c.in-Ok.top _ (narrow_same _ _ p.0 (sym p.1)) p.1) q.1

pub returns : goal.returns
returns c =
    let p = c.in-Ok.ensures in
    let q = c.in-Ok-natural_product.ensures in
    let l = parts (goal.at.returns c).After-whole_product in
    (lowest_narrow _ _ _ l p.0 q.0, c.stored.ensures ∙ lowest_same _ _ _ _ _ l (wrap_same c.in-Ok.top _ (narrow_same _ _ p.0 (sym p.1)) p.1) q.1)
