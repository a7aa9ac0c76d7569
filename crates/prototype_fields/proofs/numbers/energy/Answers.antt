use Rattle.std.proofs.Common.{◌∙◌, ap, sym}
use Rattle.energy_units.specs.declared.Measure.TheVariants.{Joules, Watts}
use Rattle.prototype_fields.specs.Numbers.{energy_reading}
use Rattle.prototype_fields.proofs.NumbersLemmas.{energy_is, energy_small}
use Rattle.prototype_fields.proofs.numbers.energy.Goals as goal

pub returns-in-Joules-clause-value : goal.returns-in-Joules-clause-value
returns-in-Joules-clause-value c = energy_is Joules c.args.text.now c.read_energy.result c.read_energy.ensures.reading ∙ ap (λ m. energy_reading m c.args.text.now) (sym c.in-Joules.is)

pub returns-in-Joules-clause-small : goal.returns-in-Joules-clause-small
returns-in-Joules-clause-small c = energy_small Joules c.args.text.now c.read_energy.result c.read_energy.ensures.reading

pub returns-in-Watts-clause-value : goal.returns-in-Watts-clause-value
returns-in-Watts-clause-value c = energy_is Watts c.args.text.now c.read_power.result c.read_power.ensures.reading ∙ ap (λ m. energy_reading m c.args.text.now) (sym c.in-Watts.is)

pub returns-in-Watts-clause-small : goal.returns-in-Watts-clause-small
returns-in-Watts-clause-small c = energy_small Watts c.args.text.now c.read_power.result c.read_power.ensures.reading
