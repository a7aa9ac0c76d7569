use Rattle.std.proofs.Common.{rules}
use Rattle.std.proofs.lemmas.List.Sorted.{IsPartitionPoint-from_clause}
use Rattle.production_table.proofs.Search.{is_below, parted}
use Rattle.production_table.proofs.table_places.count_below.Goals as goal

pub returns : goal.returns
returns c = IsPartitionPoint-from_clause (is_below c.args.good.0) _ _ c.partition_point.ensures.partitioned (parted c.args.goods.now c.args.good.0 c.requires) (λ a r q k. search rules)
