use Rattle.std.proofs.Common.{sym}
use Rattle.production_table.proofs.Search.{found, not_found}
use Rattle.production_table.proofs.table_places.find_good.Goals as goal

pub returns-then-is_good_at : goal.returns-then-is_good_at
returns-then-is_good_at c = sym (found c.args.goods.now c.count_below-place.result c.args.good.0 c.count_below-place.ensures (sym c.if-is_good_at.ensures))

pub returns-else-is_good_at : goal.returns-else-is_good_at
returns-else-is_good_at c = sym (not_found c.args.goods.now c.count_below-place.result c.args.good.0 c.requires c.count_below-place.ensures (sym c.if-is_good_at.ensures))
