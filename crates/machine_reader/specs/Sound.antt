-- What is known of each machine that is read: its numbers are within their ranges.
use Rattle.std.specs.Prelude.{◌≤◌}
use Rattle.fractions.specs.Fraction.{◌<ʳ◌, zero_fraction}
use Rattle.machine_reader.specs.declared.raw.RawEnergy.{RawEnergy}
use Rattle.machine_reader.specs.declared.raw.RawEnergy.TheVariants as energy
use Rattle.machine_reader.specs.declared.raw.RawKind.{RawKind}
use Rattle.machine_reader.specs.declared.raw.RawKind.TheVariants as kind
use Rattle.machine_reader.specs.declared.raw.RawMachine.{RawMachine}

-- what is divided by is above 0
abbrev pub IsSoundRawKind : RawKind → Type 0
IsSoundRawKind (kind.Crafter speed categories fixed) = zero_fraction <ʳ speed
IsSoundRawKind (kind.Drill speed categories fluid_box) = zero_fraction <ʳ speed
IsSoundRawKind (kind.Pump fluid speed) = zero_fraction <ʳ speed
IsSoundRawKind (kind.Generator input effectivity per_tick max_temperature burns output) = zero_fraction <ʳ effectivity
IsSoundRawKind (kind.Lab inputs speed) = zero_fraction <ʳ speed
IsSoundRawKind other = Unit {0}

abbrev pub IsSoundRawEnergy : RawEnergy → Type 0
IsSoundRawEnergy (energy.Burner categories effectivity) = zero_fraction <ʳ effectivity
IsSoundRawEnergy (energy.Fluid filter effectivity) = zero_fraction <ʳ effectivity
IsSoundRawEnergy other = Unit {0}

abbrev pub IsRawBurner : RawEnergy → Type 0
IsRawBurner (energy.Burner categories effectivity) = Unit {0}
IsRawBurner other = ⊥

-- a burner generator burns
abbrev pub IsSoundRawBurning : RawKind → RawEnergy → Type 0
IsSoundRawBurning (kind.BurnerGenerator output) source = IsRawBurner source
IsSoundRawBurning other source = Unit {0}

pub record IsSoundRawMachine (machine : RawMachine) : Type 0 where
  pub kind : IsSoundRawKind machine.kind
  pub energy : IsSoundRawEnergy machine.energy
  pub burning : IsSoundRawBurning machine.kind machine.energy
  pub slots : machine.slots ≤ 65_535
