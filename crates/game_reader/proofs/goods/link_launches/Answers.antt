use Rattle.std.proofs.Common.{refl}
use Rattle.game_reader.specs.Links.{linked_launch}
use Rattle.game_reader.proofs.Loops.{each_fails, each_more}
use Rattle.game_reader.proofs.goods.link_launches.Goals as goal

pub loop-product-preserved : goal.loop-product-preserved
loop-product-preserved c =
    each_more (linked_launch c.args.names.now) c.as_slice-product-items.result.now c.loop-product.product-index c.product-item.result c.product-item.result c.loop-product.linked.items c.push.new.self.items c.in-Ok.product
    c.loop-product-test.true c.product-item.is refl c.in-Ok.ensures c.in_ok-push-in-Ok.ensures.items c.loop-product.invariant

pub returns-in-Err : goal.returns-in-Err
returns-in-Err c = λ refused.
    each_fails (linked_launch c.args.names.now) c.as_slice-product-items.result.now c.args.products.now c.loop-product.product-index c.product-item.result c.product-item.result c.loop-product.linked.items c.in-Err.fault
    c.loop-product-test.true c.product-item.is refl c.in-Err.ensures c.as_slice-product-items.ensures c.loop-product.invariant
