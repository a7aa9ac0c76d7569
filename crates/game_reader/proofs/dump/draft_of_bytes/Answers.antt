use Rattle.std.proofs.Common.{subst}
use Rattle.json_text.specs.Accepted.{IsAccepted}
use Rattle.json_text.specs.Kept.{Wishes}
use Rattle.json_text.specs.SpanSeen.{span_seen}
use Rattle.game_reader.proofs.Codes.{draft_answered}
use Rattle.game_reader.proofs.dump.draft_of_bytes.Goals as goal

pub returns-clause-draft : goal.returns-clause-draft
returns-clause-draft c =
    let tree = span_seen c.in-Ok-read_spans.tree in
    draft_answered c.args.bytes.now tree (subst (λ (w : Wishes). IsAccepted w c.args.bytes.now tree) c.in-Ok.ensures c.in-Ok-read_spans.ensures.tree) c.read_draft.result c.read_draft.ensures.gives
