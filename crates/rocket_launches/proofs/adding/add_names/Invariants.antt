use Rattle.std.proofs.Common.{◌≡◌, ◌++◌, [], take, drop}
use Rattle.rocket_launches.specs.Launches.{first_taken}
use Rattle.rocket_launches.proofs.adding.add_names.Given as goal

abbrev pub invariant-loop-name : goal.invariant-loop-name
invariant-loop-name l = record {
  names : l.names ≡ l.initial.names ++ take l.name-index l.new;
  taken : first_taken l.initial.names [] l.new ≡ first_taken l.initial.names (take l.name-index l.new) (drop l.name-index l.new);
  place : l.place ≡ l.name-index;
}
