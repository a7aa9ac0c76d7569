use Rattle.std.proofs.Common.{sym, subst, List, ℕ}
use Rattle.energy_units.specs.Energy.{WritesNumber}
use Rattle.energy_units.proofs.Front.{front_number, number_front}
use Rattle.energy_units.proofs.Outcome.{reads_parts, unique_parts, no_number}
use Rattle.energy_units.proofs.read.Goals as goal

pub energy_of-requires : goal.energy_of-requires
energy_of-requires c =
    let t = c.args.text.now in
    record { number = front_number t; number_is = subst (λ (l : List ℕ). WritesNumber l (front_number t)) (sym c.in-Some.ensures.1) (number_front t c.in-Some.ensures.0) }

pub returns-in-Some-clause-reading : goal.returns-in-Some-clause-reading
returns-in-Some-clause-reading c =
    let e = c.in-Some.ensures in
    reads_parts c.args.measure c.args.text.now c.energy_of.result e.0 (rw (← e.1, ← e.2) c.energy_of.ensures)

pub returns-in-Some-clause-unique : goal.returns-in-Some-clause-unique
returns-in-Some-clause-unique c =
    let e = c.in-Some.ensures in
    unique_parts c.args.measure c.args.text.now c.energy_of.result (rw (← e.1, ← e.2) c.energy_of.ensures)

pub returns-in-None : goal.returns-in-None
returns-in-None c =
    let h = no_number c.args.measure c.args.text.now c.in-None.ensures in
    record { reading = h.0; unique = h.1 }
