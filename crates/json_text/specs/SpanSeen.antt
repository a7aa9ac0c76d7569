-- The tree of `specs/Kept.antt` that a `SpanTree` stands for.
use Rattle.std.specs.Prelude.{ℕ, List, map}
use Rattle.json_text.specs.Kept.{Kept}
use Rattle.json_text.specs.Kept as k
use Rattle.json_text.specs.Machine.{list_of, object_of}
use Rattle.json_text.specs.declared.span.SpanTree.{SpanTree}
use Rattle.json_text.specs.declared.span.SpanNode.{SpanNode, fold-SpanNode}
use Rattle.json_text.specs.declared.span.SpanMember.{SpanMember, fold-SpanMember}
use Rattle.json_text.specs.declared.span.SpanText.{SpanText}
use Rattle.json_text.specs.declared.span.SpanText.TheVariants.{Lent, Made}
use Rattle.json_text.specs.declared.span.SpanNode.TheOpen.{SpanNode-F, SpanMember-F, SpanTree-F}

-- the bytes of a string
abbrev pub text_seen : SpanText → List ℕ
text_seen (Lent s) = s.now
text_seen (Made t) = t

-- one level, where each tree inside is already seen
abbrev pub node_step : SpanNode-F (ℕ → Kept) (List ℕ × Kept) Kept → ℕ → Kept
node_step SpanNode-F.Null at = k.null at
node_step (SpanNode-F.Flag b) at = k.flag at b
node_step SpanNode-F.Word at = k.word at
node_step (SpanNode-F.Number s) at = k.number at s.now
node_step (SpanNode-F.Str t) at = k.string at (text_seen t)
node_step (SpanNode-F.List v) at = k.list at (list_of v.items)
node_step (SpanNode-F.Object v) at = k.object at (object_of v.items)
node_step SpanNode-F.Skipped at = k.skipped at

abbrev pub member_step : SpanMember-F (ℕ → Kept) (List ℕ × Kept) Kept → List ℕ × Kept
member_step m = (text_seen m.key, m.value)

abbrev pub tree_step : SpanTree-F (ℕ → Kept) (List ℕ × Kept) Kept → Kept
tree_step t = t.node t.at

abbrev pub node_seen : SpanNode → ℕ → Kept
node_seen = fold-SpanNode (ℕ → Kept) (List ℕ × Kept) Kept node_step member_step tree_step

abbrev pub member_seen : SpanMember → List ℕ × Kept
member_seen = fold-SpanMember (ℕ → Kept) (List ℕ × Kept) Kept node_step member_step tree_step

abbrev pub span_seen : SpanTree → Kept
span_seen t = node_seen t.node t.at

abbrev pub spans_seen : List SpanTree → List Kept
spans_seen ts = map span_seen ts

abbrev pub members_seen : List SpanMember → List (List ℕ × Kept)
members_seen ms = map (λ m. (text_seen m.key, span_seen m.value)) ms
