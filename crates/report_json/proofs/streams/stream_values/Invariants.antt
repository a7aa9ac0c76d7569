use Rattle.std.proofs.Common.{◌≡◌, map}
use Rattle.std.specs.List.{flat_map}
use Rattle.serde_json.specs.View.{view}
use Rattle.report_json.specs.Replies.{streams_of}
use Rattle.report_json.proofs.streams.stream_values.Given as goal

abbrev pub invariant-loop-column : goal.invariant-loop-column
invariant-loop-column l = map view l.list.items ≡ flat_map (streams_of l.game) (map (λ p. (p.0.now, p.1.now)) l.yielded)
