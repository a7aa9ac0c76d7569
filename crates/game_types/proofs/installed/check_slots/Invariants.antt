use Rattle.std.proofs.Common.{◌≡◌, ◌+◌, drop}
use Rattle.game_types.specs.Modules.{slots_hold, module_count}
use Rattle.game_types.proofs.installed.check_slots.Given as goal

abbrev pub invariant-loop-good : goal.invariant-loop-good
invariant-loop-good l = record {
  fault : slots_hold l.slots l.modules ≡ slots_hold l.left (drop l.good-index l.modules);
  counted : module_count l.modules + l.left ≡ l.slots + module_count (drop l.good-index l.modules);
}
