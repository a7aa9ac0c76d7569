use Rattle.std.proofs.Common.{sym, refl, get_or, false}
use Rattle.data_edit.specs.Edits.{with_mark}
use Rattle.plan_base.proofs.Places.{put_at, put_back, with_at-past}
use Rattle.data_edit.proofs.exchanges.exchange_in_marks.Goals as goal

pub returns-then-place-marks-clause-after : goal.returns-then-place-marks-clause-after
returns-then-place-marks-clause-after c = put_at (with_mark c.args.on) c.args.place c.args.marks.now false c.args.on c.if-place-marks.true refl

pub returns-then-place-marks-clause-back : goal.returns-then-place-marks-clause-back
returns-then-place-marks-clause-back c = put_back (with_mark (get_or c.args.marks.now c.args.place false)) c.args.place c.args.marks.now false c.args.on c.if-place-marks.true refl

pub returns-else-place-marks-clause-after : goal.returns-else-place-marks-clause-after
returns-else-place-marks-clause-after c = sym (with_at-past (with_mark c.args.on) c.args.place c.args.marks.now c.if-place-marks.false)

pub returns-else-place-marks-clause-back : goal.returns-else-place-marks-clause-back
returns-else-place-marks-clause-back c = with_at-past (with_mark c.args.on) c.args.place c.args.marks.now c.if-place-marks.false
