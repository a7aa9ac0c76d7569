use Rattle.std.proofs.Common.{rules}
use Rattle.json_text.specs.SpanSeen.{span_seen}
use Rattle.dump_reader.specs.Dump.{raw_game}
use Rattle.dump_reader.proofs.SoundDump.{draft_sound, first_fault}
use Rattle.dump_reader.proofs.passes.read_draft.Goals as goal

pub returns-in-Ok-clause-sound : goal.returns-in-Ok-clause-sound
unfolding raw_game
returns-in-Ok-clause-sound c = draft_sound (span_seen c.args.tree.now) c.add_sections.new.draft (search rules)

pub returns-in-Err-clause-gives : goal.returns-in-Err-clause-gives
returns-in-Err-clause-gives c not = first_fault (span_seen c.args.tree.now) _ _ _ c.in-Err.fault c.in-Some.ensures c.as_slice.ensures c.make-draft.ensures (c.in-Err.ensures.gives not)
