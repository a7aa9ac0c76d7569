use Rattle.std.proofs.Common.{◌+◌}
use Rattle.pivot_solver.specs.Numbers.{IsBasicValue}
use Rattle.pivot_solver.proofs.Each.{each_more}
use Rattle.pivot_solver.proofs.answers.values.Goals as goal

pub loop-j-preserved : goal.loop-j-preserved
loop-j-preserved c =
    each_more (λ j x. IsBasicValue c.args.basis.now c.args.rows.now c.args.width (c.args.goods + j) x) c.loop-j.j c.loop-j.rates.items c.push.new.self.items c.basic_value.result c.loop-j.invariant c.basic_value.ensures c.in_ok-push.ensures.items
