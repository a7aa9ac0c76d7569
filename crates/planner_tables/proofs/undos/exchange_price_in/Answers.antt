use Rattle.std.proofs.Common.{sym}
use Rattle.planner_tables.specs.Undoing.{with_row_price}
use Rattle.plan_base.proofs.Places.{put_at, put_back, with_at-past}
use Rattle.planner_tables.proofs.undos.exchange_price_in.Goals as goal

pub returns-then-place-rows-clause-after : goal.returns-then-place-rows-clause-after
returns-then-place-rows-clause-after c = put_at (with_row_price c.args.price) c.args.place c.args.rows.now _ _ c.if-place-rows.true c.exchange_row_price.ensures.after

pub returns-then-place-rows-clause-back : goal.returns-then-place-rows-clause-back
returns-then-place-rows-clause-back c = put_back (with_row_price c.exchange_row_price.result) c.args.place c.args.rows.now _ _ c.if-place-rows.true c.exchange_row_price.ensures.back

pub returns-else-place-rows-clause-after : goal.returns-else-place-rows-clause-after
returns-else-place-rows-clause-after c = sym (with_at-past (with_row_price c.args.price) c.args.place c.args.rows.now c.if-place-rows.false)

pub returns-else-place-rows-clause-back : goal.returns-else-place-rows-clause-back
returns-else-place-rows-clause-back c = with_at-past (with_row_price c.args.price) c.args.place c.args.rows.now c.if-place-rows.false
