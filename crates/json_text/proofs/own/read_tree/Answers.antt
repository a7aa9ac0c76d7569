use Rattle.json_text.specs.Accepted.{all_bounds}
use Rattle.json_text.specs.Seen.{wishes}
use Rattle.json_text.specs.SpanSeen.{span_seen}
use Rattle.json_text.proofs.Textual.{accepted_textual}
use Rattle.json_text.proofs.own.read_tree.Goals as goal

pub owned_tree-requires : goal.owned_tree-requires
owned_tree-requires c = accepted_textual all_bounds (wishes c.args.wanted.now) c.args.bytes.now (span_seen c.in_ok-tree.tree) c.in_ok-tree.ensures.tree
