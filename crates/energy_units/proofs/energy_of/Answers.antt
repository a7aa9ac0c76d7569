use Rattle.std.proofs.Common.{◌∙◌, refl, sym, ap, subst}
use Rattle.fractions.specs.Numeral.{IsShort}
use Rattle.fractions.proofs.Short.{short_magnitude}
use Rattle.energy_units.specs.Energy.{Energy}
use Rattle.energy_units.specs.Scaled.{IsEnergyOf}
use Rattle.energy_units.specs.Split.{factor_of}
use Rattle.energy_units.proofs.Outcome.{unsigned_value, scaled_gives, numeral_large, not_moderate, gives_parts}
use Rattle.energy_units.proofs.energy_of.Goals as goal

pub scaled-requires-clause-short : goal.scaled-requires-clause-short
scaled-requires-clause-short c =
    let n = c.requires.number in
    let h = c.in-Ok.ensures.unique n c.requires.number_is.numeral in
    subst IsShort (sym (h.1 ∙ unsigned_value n c.requires.number_is.unsigned)) (short_magnitude c.args.number.now n c.requires.number_is.numeral h.0)

pub returns-in-Ok : goal.returns-in-Ok
returns-in-Ok c =
    let n = c.requires.number in
    let h = c.in-Ok.ensures.unique n c.requires.number_is.numeral in
    let e : Energy = record { number = n; power = c.split_prefix-power.result.0; factor = c.in-Some.factor } in
    let p : IsEnergyOf c.args.measure c.args.number.now c.args.behind.now e = record {
      number_is = c.requires.number_is;
      power_is = sym c.split_prefix-power.ensures.power;
      factor_is = ap (factor_of c.args.measure) (sym c.split_prefix-power.ensures.rest) ∙ sym c.in-Some.ensures.value;
    } in
    gives_parts c.args.measure c.args.number.now c.args.behind.now e c.scaled.result p
    (scaled_gives e c.in-Ok.value _ _ c.scaled.result h.0 (h.1 ∙ unsigned_value n c.requires.number_is.unsigned) refl refl c.scaled.ensures)

pub returns-in-Err : goal.returns-in-Err
returns-in-Err c =
    let n = c.requires.number in
    let e : Energy = record { number = n; power = c.split_prefix-power.result.0; factor = c.in-Some.factor } in (
      e,
      record {
        number_is = c.requires.number_is;
        power_is = sym c.split_prefix-power.ensures.power;
        factor_is = ap (factor_of c.args.measure) (sym c.split_prefix-power.ensures.rest) ∙ sym c.in-Some.ensures.value;
      },
      not_moderate e (numeral_large c.in-Err.field-0 n (c.in-Err.ensures.unique n c.requires.number_is.numeral)),
    )
