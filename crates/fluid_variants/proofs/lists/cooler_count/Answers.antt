use Rattle.std.proofs.Common.{rules}
use Rattle.std.proofs.lemmas.List.Sorted.{IsPartitionPoint-from_clause}
use Rattle.game_types.specs.Temperatures.{is_cooler}
use Rattle.fluid_variants.proofs.Rising.{counted_by_place, parted}
use Rattle.fluid_variants.proofs.lists.cooler_count.Goals as goal

pub returns-clause-count : goal.returns-clause-count
returns-clause-count c =
    counted_by_place c.args.temperatures.now c.args.at.now _ c.partition_point.ensures.bound
    (IsPartitionPoint-from_clause (λ lower. is_cooler lower c.args.at.now) _ _ c.partition_point.ensures.partitioned (parted c.args.temperatures.now c.args.at.now c.requires) (λ a r q k. search rules))
