use Rattle.page_rows.proofs.NumberLemmas.{product_fits, product_wide}
use Rattle.page_rows.proofs.numbers.product.Goals as goal

pub returns-in-Ok : goal.returns-in-Ok
returns-in-Ok c = product_fits c.args.left.now c.args.right.now c.in-Ok.value c.in-Ok.ensures.0 c.in-Ok.ensures.1

pub returns-in-Err : goal.returns-in-Err
returns-in-Err c = product_wide c.args.left.now c.args.right.now c.in-Err.ensures
