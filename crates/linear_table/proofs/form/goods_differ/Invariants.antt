use Rattle.linear_table.specs.Form.{HasNewGoods}
use Rattle.linear_table.proofs.form.goods_differ.Given as goal

abbrev pub invariant-loop-g : goal.invariant-loop-g
invariant-loop-g l = HasNewGoods l.linear l.g
