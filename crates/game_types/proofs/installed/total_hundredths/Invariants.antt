use Rattle.std.proofs.Common.{◌≡◌, ◌≤◌, ◌+◌, ◌*◌, ◌+ℤ◌, unsigned_abs, drop}
use Rattle.game_types.specs.Modules.{hundredths_of, module_count}
use Rattle.game_types.proofs.installed.total_hundredths.Given as goal

abbrev pub invariant-loop-good : goal.invariant-loop-good
invariant-loop-good l = record {
  sum : l.sum +ℤ hundredths_of l.game l.kind (drop l.good-index l.modules) ≡ hundredths_of l.game l.kind l.modules;
  room : unsigned_abs l.sum + 100_000_000 * module_count (drop l.good-index l.modules) ≤ 6_553_500_000_000;
}
