use Rattle.report_json.specs.Replies.{group_value}
use Rattle.report_json.proofs.Listing.{Wrote}
use Rattle.report_json.proofs.questions.group_values.Given as goal

abbrev pub invariant-loop-group : goal.invariant-loop-group
invariant-loop-group l = Wrote (group_value l.game) l.groups l.group-index l.list.items
