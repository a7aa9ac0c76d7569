use Rattle.std.proofs.Common.{◌≡◌, ◌++◌, drop}
use Rattle.std.specs.Prelude.{map}
use Rattle.production_table.specs.Linear.{want_of}
use Rattle.production_table.proofs.linear.wants_of.Given as goal

abbrev pub invariant-loop-good : goal.invariant-loop-good
invariant-loop-good l = map (want_of l.wants) l.goods ≡ l.rates.items ++ map (want_of l.wants) (drop l.good-index l.goods)
