use Rattle.std.proofs.Common.{rules}
use Rattle.std.proofs.lemmas.List.Sorted.{IsPartitionPoint-from_clause}
use Rattle.depend_index.proofs.CoolestLemmas.{cool_before, cool_parted, is_too_cool, warm_from}
use Rattle.depend_index.proofs.temperatures.too_cool_count.Goals as goal

pub returns-clause-cool : goal.returns-clause-cool
returns-clause-cool c =
    cool_before c.args.fluids.now c.args.first c.args.low.now c.args.nodes.now c.partition_point.result c.partition_point.ensures.bound
    (IsPartitionPoint-from_clause (is_too_cool c.args.fluids.now c.args.first c.args.low.now) _ _ c.partition_point.ensures.partitioned (cool_parted c.args.fluids.now c.args.first c.args.low.now c.args.nodes.now c.requires) (λ a r q k. search rules))

pub returns-clause-warm : goal.returns-clause-warm
returns-clause-warm c =
    warm_from c.args.fluids.now c.args.first c.args.low.now c.args.nodes.now c.partition_point.result
    (IsPartitionPoint-from_clause (is_too_cool c.args.fluids.now c.args.first c.args.low.now) _ _ c.partition_point.ensures.partitioned (cool_parted c.args.fluids.now c.args.first c.args.low.now c.args.nodes.now c.requires) (λ a r q k. search rules))
