use Rattle.std.proofs.Common.{◌≡◌, take, not, map}
use Rattle.std.specs.List.{filter}
use Rattle.reach_ranks.specs.Rounds.{is_satisfied}
use Rattle.milestone_masks.specs.Worlds.{ranked}
use Rattle.milestone_masks.proofs.missing.missing_groups.Given as goal

abbrev pub invariant-loop-group : goal.invariant-loop-group
invariant-loop-group l =
    l.missing.items ≡ map (λ g. record { all = g.all; members = filter (λ m. not (ranked l.ranks m.0)) g.members }) (filter (λ g. not (is_satisfied (ranked l.ranks) g)) (take l.group-index l.groups))
