use Rattle.std.proofs.Common.{◌*ℤ◌, ◌-ℤ◌, ℕ, sym, subst, arith}
use Rattle.std.specs.Int.{◌∣◌}
use Rattle.std.proofs.Math.Nat.{dvd_refl}
use Rattle.std.proofs.lemmas.Nat.Gcd.{le_of_dvd}
use Rattle.number_rows.specs.Tops.{top_at}
use Rattle.number_rows.proofs.Lists.{wrap}
use Rattle.number_rows.proofs.Wider.{IsQuotientAt}
use Rattle.number_rows.proofs.Quotients.{quotient_exact, lowered_put, lowered_raised}
use Rattle.number_rows.proofs.lowering.put_quotient.Goals as goal

pub returns-in-Some-clause-divides : goal.returns-in-Some-clause-divides
returns-in-Some-clause-divides c = subst (λ (n : ℕ). n ∣ c.args.over.divisor) (sym c.with.ensures.divisor) (dvd_refl c.args.over.divisor)

pub returns-in-Some-clause-below : goal.returns-in-Some-clause-below
returns-in-Some-clause-below c =
    let k = c.args.k in
    let x : IsQuotientAt (wrap c.in-Some.quotient) (top_at c.args.tops.now k *ℤ c.args.scale -ℤ top_at c.args.others.now k *ℤ c.args.factor) c.args.over.divisor =
    quotient_exact (top_at c.args.tops.now k) c.args.scale (top_at c.args.others.now k) c.args.factor c.long_combined-number.result c.in-Some.quotient c.args.over.divisor
    (c.requires.tops k c.requires.inside) c.requires.scale (c.requires.others k (omega (arith, c.requires.inside, c.requires.lengths))) c.requires.factor
    c.long_combined-number.ensures.value c.long_combined-number.ensures.small c.in-Some.ensures.0 c.in-Some.ensures.1 in
    lowered_put c.args.tops.now c.args.scale c.args.others.now c.args.factor c.args.over.divisor c.args.over.bound c.with.result.divisor c.with.result.bound c.args.quotients.now k (wrap c.in-Some.quotient)
    (omega (arith, c.requires.inside, c.requires.quotients)) x c.with.ensures.divisor c.with.ensures.grows c.with.ensures.fits c.with.ensures.small c.requires.below

pub exact_quotient-requires-clause-small_divisor : goal.exact_quotient-requires-clause-small_divisor
exact_quotient-requires-clause-small_divisor c = omega (arith, le_of_dvd c.requires.below.positive c.in-Some-lower.ensures.raised.divides, c.requires.below.divisor_small)

pub returns-clause-divides : goal.returns-clause-divides
returns-clause-divides c = subst (λ (n : ℕ). n ∣ c.args.over.divisor) (sym c.with-2.ensures.divisor) c.in-Some-lower.ensures.raised.divides

pub returns-clause-below : goal.returns-clause-below
returns-clause-below c =
    let k = c.args.k in
    let l = c.in-Some-lower.lowered in
    let q = c.in-Some-exact_quotient.quotient in
    let x : IsQuotientAt (wrap q) (top_at c.args.tops.now k *ℤ c.args.scale -ℤ top_at c.args.others.now k *ℤ c.args.factor) l.divisor =
    quotient_exact (top_at c.args.tops.now k) c.args.scale (top_at c.args.others.now k) c.args.factor c.long_combined-number.result q l.divisor
    (c.requires.tops k c.requires.inside) c.requires.scale (c.requires.others k (omega (arith, c.requires.inside, c.requires.lengths))) c.requires.factor
    c.long_combined-number.ensures.value c.long_combined-number.ensures.small c.in-Some-exact_quotient.ensures.0 c.in-Some-exact_quotient.ensures.1 in
    lowered_put c.args.tops.now c.args.scale c.args.others.now c.args.factor l.divisor l.bound c.with-2.result.divisor c.with-2.result.bound c.lower.new.quotients k (wrap q)
    (omega (arith, c.requires.inside, c.requires.quotients, c.lower.ensures.length_is)) x c.with-2.ensures.divisor c.with-2.ensures.grows c.with-2.ensures.fits c.with-2.ensures.small
    (lowered_raised c.args.tops.now c.args.scale c.args.others.now c.args.factor c.args.over.divisor c.args.over.bound l.divisor l.bound c.args.quotients.now c.lower.new.quotients k c.in-Some-lower.ensures.raised c.requires.below)
