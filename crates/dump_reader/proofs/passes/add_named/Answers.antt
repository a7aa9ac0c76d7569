use Rattle.craft_reader.proofs.FaultsLemmas.{placed_fault}
use Rattle.json_text.specs.SpanSeen.{span_seen}
use Rattle.dump_reader.specs.Draft.{draft_seen}
use Rattle.dump_reader.specs.Dump.{prototype_of, named_of}
use Rattle.machine_reader.specs.Sections.{section_text}
use Rattle.std.proofs.Common.{sym}
use Rattle.dump_reader.proofs.passes.add_named.Goals as goal

pub returns-in-Err-clause-gives : goal.returns-in-Err-clause-gives
unfolding named_of
returns-in-Err-clause-gives c =
    let text = c.text.ensures in
    placed_fault (section_text c.args.section) c.args.name.now (prototype_of c.args.section c.args.name.now (span_seen c.args.value.now) (draft_seen c.args.draft.now)) c.in-Err.fault c.of_field.result c.in-Err.ensures
    (rw (sym text) c.of_field.ensures.fault)
