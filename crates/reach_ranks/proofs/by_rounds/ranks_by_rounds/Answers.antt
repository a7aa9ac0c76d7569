-- Before any round each rank is 0.
use Rattle.std.proofs.Common.{◌∙◌}
use Rattle.reach_ranks.specs.Rounds.{world_under}
use Rattle.reach_ranks.proofs.Between.{ranks-at_zero}
use Rattle.reach_ranks.proofs.by_rounds.ranks_by_rounds.Goals as goal

pub add_rounds-requires-clause-before : goal.add_rounds-requires-clause-before
add_rounds-requires-clause-before g c =
    ranks-at_zero
    (world_under (g.R.Rows.rows c.args.rows.now) c.args.marks)
    c.len.result
    c.deref_mut.result.now
    c.len.ensures.length
    (c.deref_mut.ensures.value ∙ c.in_ok-of.ensures.items_if_clones_equal (λ y e. e))
