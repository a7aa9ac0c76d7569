use Rattle.report_json.specs.Replies.{ranked_value}
use Rattle.report_json.proofs.Listing.{Wrote}
use Rattle.report_json.proofs.questions.ranked_values.Given as goal

abbrev pub invariant-loop-pair : goal.invariant-loop-pair
invariant-loop-pair l = Wrote (ranked_value l.game) l.nodes l.pair-index l.list.items
