use Rattle.std.proofs.Common.{refl}
use Rattle.game_reader.specs.Links.{linked_part}
use Rattle.game_reader.proofs.Loops.{each_fails, each_more}
use Rattle.game_reader.proofs.goods.link_parts.Goals as goal

pub loop-part-preserved : goal.loop-part-preserved
loop-part-preserved c =
    each_more (linked_part c.args.names.now) c.as_slice-part-items.result.now c.loop-part.part-index c.part-item.result c.part-item.result c.loop-part.linked.items c.push.new.self.items c.in-Ok.part
    c.loop-part-test.true c.part-item.is refl c.in-Ok.ensures c.in_ok-push-in-Ok.ensures.items c.loop-part.invariant

pub returns-in-Err : goal.returns-in-Err
returns-in-Err c = λ refused.
    each_fails (linked_part c.args.names.now) c.as_slice-part-items.result.now c.args.parts.now c.loop-part.part-index c.part-item.result c.part-item.result c.loop-part.linked.items c.in-Err.fault
    c.loop-part-test.true c.part-item.is refl c.in-Err.ensures c.as_slice-part-items.ensures c.loop-part.invariant
