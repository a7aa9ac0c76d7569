use Rattle.std.proofs.Common.{◌≡◌, ◌∙◌, List, refl, sym, ap, subst}
use Rattle.game_types.proofs.Walks.{next, returned}
use Rattle.table_rows.specs.Columns.{given, pack_taken, taken}
use Rattle.table_rows.proofs.Sums.{handed_on, walk_end, walk_on, walk_stop}
use Rattle.table_rows.proofs.given_taken.give_products.Goals as goal

pub returns-in_err-give_product : goal.returns-in_err-give_product
returns-in_err-give_product c =
    handed_on _ c.from_residual.result c.in_err-give_product.field-0.0 c.give_product.new.column.items (returned c.from_residual.result c.in_err-give_product.field-0.0 c.from_residual.ensures)
    (λ wide is.
    c.loop-product.invariant
    ∙ walk_stop (given c.args.productivity.now) c.loop-product.column.items c.args.products.now c.loop-product.product-index c.product-item.result wide
    (next c.args.products.now c.loop-product.product-index c.product-item.result c.loop-product-test.true c.product-item.is) (c.in_err-give_product.ensures wide is))

pub loop-product-preserved : goal.loop-product-preserved
loop-product-preserved c =
    c.loop-product.invariant
    ∙ walk_on (given c.args.productivity.now) c.loop-product.column.items c.give_product.new.column.items c.args.products.now c.loop-product.product-index c.product-item.result
    (next c.args.products.now c.loop-product.product-index c.product-item.result c.loop-product-test.true c.product-item.is) c.in_ok-give_product.ensures

pub returns : goal.returns
returns c = c.loop-product.invariant ∙ walk_end (given c.args.productivity.now) c.loop-product.column.items c.args.products.now c.loop-product.product-index c.loop-product-test.false
