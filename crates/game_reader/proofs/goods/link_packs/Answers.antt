use Rattle.std.proofs.Common.{refl}
use Rattle.game_reader.specs.Links.{linked_pack}
use Rattle.game_reader.proofs.Loops.{each_fails, each_more}
use Rattle.game_reader.proofs.goods.link_packs.Goals as goal

pub loop-pack-preserved : goal.loop-pack-preserved
loop-pack-preserved c =
    each_more (linked_pack c.args.names.now) c.as_slice-pack-items.result.now c.loop-pack.pack-index c.pack-item.result c.pack-item.result c.loop-pack.linked.items c.push.new.self.items c.in-Ok.pack
    c.loop-pack-test.true c.pack-item.is refl c.in-Ok.ensures c.in_ok-push-in-Ok.ensures.items c.loop-pack.invariant

pub returns-in-Err : goal.returns-in-Err
returns-in-Err c = λ refused.
    each_fails (linked_pack c.args.names.now) c.as_slice-pack-items.result.now c.args.packs.now c.loop-pack.pack-index c.pack-item.result c.pack-item.result c.loop-pack.linked.items c.in-Err.fault
    c.loop-pack-test.true c.pack-item.is refl c.in-Err.ensures c.as_slice-pack-items.ensures c.loop-pack.invariant
