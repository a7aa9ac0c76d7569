use Rattle.std.proofs.Common.{sym}
use Rattle.planner_tables.specs.Undoing.{part_restored}
use Rattle.plan_base.proofs.Places.{put_at, put_back, with_at-past}
use Rattle.planner_tables.proofs.undos.exchange_part_at.Goals as goal

pub returns-then-place-tables-clause-after : goal.returns-then-place-tables-clause-after
returns-then-place-tables-clause-after c = put_at (part_restored c.args.part) c.args.place c.args.tables.now _ _ c.if-place-tables.true c.exchange_part.ensures.after

pub returns-then-place-tables-clause-back : goal.returns-then-place-tables-clause-back
returns-then-place-tables-clause-back c = put_back (part_restored c.exchange_part.result) c.args.place c.args.tables.now _ _ c.if-place-tables.true c.exchange_part.ensures.back

pub returns-else-place-tables-clause-after : goal.returns-else-place-tables-clause-after
returns-else-place-tables-clause-after c = sym (with_at-past (part_restored c.args.part) c.args.place c.args.tables.now c.if-place-tables.false)

pub returns-else-place-tables-clause-back : goal.returns-else-place-tables-clause-back
returns-else-place-tables-clause-back c = with_at-past (part_restored c.args.part) c.args.place c.args.tables.now c.if-place-tables.false
