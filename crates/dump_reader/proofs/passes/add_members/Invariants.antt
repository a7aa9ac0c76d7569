use Rattle.json_text.specs.SpanSeen.{text_seen, span_seen}
use Rattle.dump_reader.specs.Draft.{draft_seen}
use Rattle.dump_reader.specs.Dump.{member_of}
use Rattle.dump_reader.proofs.Folds.{SoFar}
use Rattle.dump_reader.proofs.passes.add_members.Given as goal

abbrev pub invariant-loop-member : goal.invariant-loop-member
invariant-loop-member l = SoFar (λ m. (text_seen m.key, span_seen m.value)) (member_of l.section) l.members l.member-index (draft_seen l.initial.draft) (draft_seen l.draft)
