use Rattle.std.proofs.Common.{◌≡◌, ◌≤◌, ◌+◌, length, drop}
use Rattle.std.specs.Prelude.{sum_by}
use Rattle.depend_rows.proofs.rows.add_members.Given as goal

abbrev pub invariant-loop-group : goal.invariant-loop-group
invariant-loop-group l = (l.sum + sum_by (λ group. length group.members) (drop l.group-index l.groups) ≡ l.count + sum_by (λ group. length group.members) l.groups) × (l.sum ≤ l.limit)
