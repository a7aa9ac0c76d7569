use Rattle.std.proofs.Common.{◌≡◌, drop}
use Rattle.production_table.specs.Numbers.{number_of}
use Rattle.production_table.proofs.numbers.number_of.Given as goal

abbrev pub invariant-loop-pair : goal.invariant-loop-pair
invariant-loop-pair l = number_of l.pairs l.good ≡ number_of (drop l.pair-index l.pairs) l.good
