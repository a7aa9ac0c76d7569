use Rattle.std.proofs.Common.{◌≡◌, drop}
use Rattle.game_types.specs.Sound.{IsSoundSetup}
use Rattle.table_rows.specs.Names.{with_parts}
use Rattle.table_rows.proofs.named_setups.with_parts.Given as goal

abbrev pub invariant-loop-part : goal.invariant-loop-part
invariant-loop-part l = record {
  same : with_parts l.game (drop l.part-index l.parts) l.setup ≡ with_parts l.game l.parts l.fn.bare;
  sound : IsSoundSetup l.game l.setup;
}
