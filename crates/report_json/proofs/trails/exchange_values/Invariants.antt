use Rattle.report_json.specs.Replies.{exchange_value}
use Rattle.report_json.proofs.Listing.{Wrote}
use Rattle.report_json.proofs.trails.exchange_values.Given as goal

abbrev pub invariant-loop-exchange : goal.invariant-loop-exchange
invariant-loop-exchange l = Wrote (exchange_value l.game l.labels) l.trail l.exchange-index l.list.items
