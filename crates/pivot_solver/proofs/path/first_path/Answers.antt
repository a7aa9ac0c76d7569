use Rattle.std.proofs.Common.{arith, ap, List, ◌+◌}
use Rattle.linear_table.specs.declared.Exchange.{Exchange}
use Rattle.std.proofs.Common.{length}
use Rattle.pivot_solver.proofs.Paths.{begin_path}
use Rattle.pivot_solver.proofs.path.first_path.Goals as goal

pub returns : goal.returns
returns c = (
  begin_path c.args.linear.now (record { basis = c.in_ok-basis.basis; rows = c.in_ok-rows.rows; cost = c.in_ok-cost.cost; trail = c.new.result }) c.args.goods (c.args.width + 1) c.requires.well_formed c.requires.goods_is (omega arith)
      c.new.ensures.items c.in_ok-basis.ensures c.in_ok-rows.ensures c.in_ok-cost.ensures,
  ap (λ (x : List Exchange). length x) c.new.ensures.items,
)
