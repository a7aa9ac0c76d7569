use Rattle.std.proofs.Common.{codes}
use Rattle.json_text.specs.SpanSeen.{span_seen}
use Rattle.craft_reader.specs.Technologies.{tech_of}
use Rattle.craft_reader.proofs.FaultsLemmas.{placed_fault}
use Rattle.craft_reader.proofs.technologies.read_tech.Goals as goal

pub returns-in-Err-clause-gives : goal.returns-in-Err-clause-gives
returns-in-Err-clause-gives c = placed_fault (codes "technology") c.args.name.now (tech_of (span_seen c.args.tree.now)) c.in-Err.fault c.of_field.result c.in-Err.ensures c.of_field.ensures.fault
