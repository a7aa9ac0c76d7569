use Rattle.json_text.specs.SpanSeen.{members_seen}
use Rattle.dump_reader.specs.Draft.{draft_seen}
use Rattle.dump_reader.specs.Dump.{section_of}
use Rattle.dump_reader.proofs.Folds.{SoFar}
use Rattle.dump_reader.proofs.passes.add_sections.Given as goal

abbrev pub invariant-loop-section : goal.invariant-loop-section
invariant-loop-section l = SoFar (λ s. s) (section_of (members_seen l.top)) l.sections l.section-index (draft_seen l.initial.draft) (draft_seen l.draft)
