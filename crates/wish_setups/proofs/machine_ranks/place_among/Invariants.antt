use Rattle.std.proofs.Common.{◌≡◌, ◌+◌, drop}
use Rattle.wish_setups.specs.Choice.{place_among}
use Rattle.wish_setups.proofs.machine_ranks.place_among.Given as goal

abbrev pub invariant-loop-other : goal.invariant-loop-other
invariant-loop-other l = (l.place ≡ l.other-index) × (l.place + place_among (drop l.other-index l.machines) l.machine.0 ≡ place_among l.machines l.machine.0)
