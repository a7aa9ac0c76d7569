use Rattle.std.proofs.Common.{◌≡◌, [], take, drop}
use Rattle.fluid_variants.specs.Naming.{first_twice}
use Rattle.fluid_variants.proofs.naming.table_of.Given as goal

abbrev pub invariant-loop-name : goal.invariant-loop-name
invariant-loop-name l = record {
  table : l.table ≡ take l.name-index l.names;
  twice : first_twice [] l.names ≡ first_twice (take l.name-index l.names) (drop l.name-index l.names);
  place : l.place ≡ l.name-index;
}
