use Rattle.std.proofs.Common.{◌≡◌, drop}
use Rattle.json_text.specs.SpanSeen.{members_seen}
use Rattle.prototype_fields.specs.Objects.{value_at}
use Rattle.prototype_fields.proofs.trees.value_at.Given as goal

abbrev pub invariant-loop-member : goal.invariant-loop-member
invariant-loop-member l = value_at l.key (members_seen l.members) ≡ value_at l.key (members_seen (drop l.member-index l.members))
