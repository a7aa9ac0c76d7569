use Rattle.std.proofs.Common.{◌≡◌, ◌∙◌, refl, arith, ap, subst, sym, ◌*◌, ◌/◌, ◌*ℤ◌, ◌+ℤ◌, to_z, ℤ, ℕ, ◌<◌, ◌^◌}
use Rattle.std.specs.Int.{w128}
use Rattle.fractions.specs.Limits.{lcm, num_over}
use Rattle.fractions.proofs.Parts.{wrap, narrow_same}
use Rattle.fractions.proofs.Sum.{IsCommon, common_at, factor_narrow, times_plain, computed_back, sum_back}
use Rattle.fractions.specs.Fraction.{◌+ʳ◌}
use Rattle.fractions.proofs.SmallParts.{IsResult, long_result}
use Rattle.fractions.proofs.ratio.Ratio.long_sum.Goals.{After-natural_product, After-whole_product, After-whole_product-2, After-divided}
use Rattle.fractions.proofs.ratio.Ratio.long_sum.Goals as goal

common : (c : After-natural_product) → IsCommon c.args.self.now c.args.other.now (c.natural_denominator-b.result * (c.natural_denominator-d.result / c.greatest_common_divisor-common.result)) (c.natural_denominator-d.result / c.greatest_common_divisor-common.result) (c.natural_denominator-b.result / c.greatest_common_divisor-common.result)
common c = common_at _ _ _ _ _ c.natural_denominator-b.ensures.value c.natural_denominator-d.ensures.value c.greatest_common_divisor-common.ensures.exact

-- the first product is the numerator of `self` over the least common denominator
first_is : (c : After-whole_product) → wrap c.numerator.result *ℤ to_z w128 (c.natural_denominator-d.result / c.greatest_common_divisor-common.result) ≡ num_over c.args.self.now (lcm c.args.self.now.den c.args.other.now.den)
first_is c =
    times_plain c.numerator.result c.args.self.now.num _ c.numerator.ensures.narrow c.numerator.ensures.value (factor_narrow _ _ _ c.natural_denominator-d.ensures.value c.natural_denominator-d.ensures.narrow)
    ∙ sym (common_at c.args.self.now c.args.other.now _ _ _ c.natural_denominator-b.ensures.value c.natural_denominator-d.ensures.value c.greatest_common_divisor-common.ensures.exact).first_is

second_is : (c : After-whole_product-2) → wrap c.numerator-2.result *ℤ to_z w128 (c.natural_denominator-b.result / c.greatest_common_divisor-common.result) ≡ num_over c.args.other.now (lcm c.args.self.now.den c.args.other.now.den)
second_is c =
    times_plain c.numerator-2.result c.args.other.now.num _ c.numerator-2.ensures.narrow c.numerator-2.ensures.value (factor_narrow _ _ _ c.natural_denominator-b.ensures.value c.natural_denominator-b.ensures.narrow)
    ∙ sym (common_at c.args.self.now c.args.other.now _ _ _ c.natural_denominator-b.ensures.value c.natural_denominator-d.ensures.value c.greatest_common_divisor-common.ensures.exact).second_is

pub returns-in_default-whole_product : goal.returns-in_default-whole_product
returns-in_default-whole_product c w =
    c.in_default-whole_product.ensures (narrow_same _ _ w.first (sym (first_is (goal.at.returns-in_default-whole_product c).After-whole_product)))

pub returns-in_default-whole_product-2 : goal.returns-in_default-whole_product-2
returns-in_default-whole_product-2 c w =
    c.in_default-whole_product-2.ensures (narrow_same _ _ w.second (sym (second_is (goal.at.returns-in_default-whole_product-2 c).After-whole_product-2)))

pub returns-in_default-whole_sum : goal.returns-in_default-whole_sum
returns-in_default-whole_sum c w =
    let p = c.in-Ok-whole_product.ensures in
    let q = c.in-Ok-whole_product-2.ensures in
    let one = computed_back c.in-Ok-whole_product.first _ _ p.0 p.1 (first_is (goal.at.returns-in_default-whole_sum c).After-whole_product) in
    let two = computed_back c.in-Ok-whole_product-2.second _ _ q.0 q.1 (second_is (goal.at.returns-in_default-whole_sum c).After-whole_product-2) in
    c.in_default-whole_sum.ensures (narrow_same _ _ w.sum (sym (sum_back c.in-Ok-whole_product.first c.in-Ok-whole_product-2.second _ _ one two)))

sum_same : {a b c d : ℤ} → a ≡ b → c ≡ d → a +ℤ c ≡ b +ℤ d
sum_same {b = b} {c = c} p q = ap (λ j. j +ℤ c) p ∙ ap (λ j. b +ℤ j) q

-- what the code computes last is the sum in lowest terms
result_is : (c : After-divided) → IsResult (wrap c.divided.result) (c.natural_denominator-b.result / c.greatest_common_divisor-common.result * (c.natural_denominator-d.result / c.greatest_common_divisor-shared.result)) (c.args.self.now +ʳ c.args.other.now)
result_is c =
    let l = c.in-Ok.ensures in
    let p = c.in-Ok-whole_product.ensures in
    let q = c.in-Ok-whole_product-2.ensures in
    let s = c.in-Ok-whole_sum.ensures in
    let cm = common (goal.at.stored-requires c).After-natural_product in
    let e = first_is (goal.at.stored-requires c).After-whole_product in
    let f = second_is (goal.at.stored-requires c).After-whole_product-2 in
    let both = sum_back c.in-Ok-whole_product.first c.in-Ok-whole_product-2.second _ _ (computed_back c.in-Ok-whole_product.first _ _ p.0 p.1 e) (computed_back c.in-Ok-whole_product-2.second _ _ q.0 q.1 f) in
    let top = computed_back c.in-Ok-whole_sum.top _ _ s.0 s.1 (both ∙ sum_same cm.first_is cm.second_is) in
    long_result c.args.self.now c.args.other.now _ c.divided.result c.natural_denominator-b.result c.natural_denominator-d.result c.greatest_common_divisor-common.result c.greatest_common_divisor-shared.result c.unsigned_abs.result
    c.natural_denominator-b.ensures.value c.natural_denominator-d.ensures.value c.greatest_common_divisor-common.ensures.exact top
    (narrow_same _ _ s.0 (sym (computed_back c.in-Ok-whole_sum.top _ _ s.0 s.1 refl)))
    l.0 c.unsigned_abs.ensures.value c.greatest_common_divisor-shared.ensures.exact c.divided.ensures

pub overflow_mul-d_factor : goal.overflow_mul-d_factor
overflow_mul-d_factor c = omega (arith, (result_is c).stored.narrow_bottom)

pub stored-requires : goal.stored-requires
stored-requires c = (result_is c).stored

pub returns : goal.returns
returns c =
    let l = c.in-Ok.ensures in
    let p = c.in-Ok-whole_product.ensures in
    let q = c.in-Ok-whole_product-2.ensures in
    let s = c.in-Ok-whole_sum.ensures in
    let cm = common (goal.at.returns c).After-natural_product in
    let e = first_is (goal.at.returns c).After-whole_product in
    let f = second_is (goal.at.returns c).After-whole_product-2 in
    let both = sum_back c.in-Ok-whole_product.first c.in-Ok-whole_product-2.second _ _ (computed_back c.in-Ok-whole_product.first _ _ p.0 p.1 e) (computed_back c.in-Ok-whole_product-2.second _ _ q.0 q.1 f) in (
      record {
        common = subst (λ (k : ℕ). k < 2 ^ 127) (sym cm.lcm_is) l.0;
        first = narrow_same _ _ p.0 e;
        second = narrow_same _ _ q.0 f;
        sum = narrow_same _ _ s.0 both;
      },
      c.stored.ensures ∙ (result_is (goal.at.returns c).After-divided).same,
    )
