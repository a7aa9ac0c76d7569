use Rattle.std.proofs.Common.{sym}
use Rattle.data_edit.specs.Edits.{with_unlocks}
use Rattle.plan_base.proofs.Places.{put_at, put_back, with_at-past}
use Rattle.data_edit.proofs.exchanges.exchange_in_techs.Goals as goal

pub returns-then-place-techs-clause-after : goal.returns-then-place-techs-clause-after
returns-then-place-techs-clause-after c = put_at (with_unlocks c.args.unlocks) c.args.place c.args.techs.now _ _ c.if-place-techs.true c.exchange_in_tech.ensures.after

pub returns-then-place-techs-clause-back : goal.returns-then-place-techs-clause-back
returns-then-place-techs-clause-back c = put_back (with_unlocks c.exchange_in_tech.result) c.args.place c.args.techs.now _ _ c.if-place-techs.true c.exchange_in_tech.ensures.back

pub returns-else-place-techs-clause-after : goal.returns-else-place-techs-clause-after
returns-else-place-techs-clause-after c = sym (with_at-past (with_unlocks c.args.unlocks) c.args.place c.args.techs.now c.if-place-techs.false)

pub returns-else-place-techs-clause-back : goal.returns-else-place-techs-clause-back
returns-else-place-techs-clause-back c = with_at-past (with_unlocks c.args.unlocks) c.args.place c.args.techs.now c.if-place-techs.false
