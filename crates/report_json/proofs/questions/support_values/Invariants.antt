use Rattle.report_json.specs.Replies.{support_value}
use Rattle.report_json.proofs.Listing.{Wrote}
use Rattle.report_json.proofs.questions.support_values.Given as goal

abbrev pub invariant-loop-support : goal.invariant-loop-support
invariant-loop-support l = Wrote (support_value l.game) l.nodes l.support-index l.list.items
