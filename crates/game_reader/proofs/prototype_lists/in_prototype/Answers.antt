use Rattle.std.proofs.Common.{sym}
use Rattle.craft_reader.proofs.FaultsLemmas.{placed_fault}
use Rattle.machine_reader.specs.Sections.{section_text}
use Rattle.game_reader.proofs.prototype_lists.in_prototype.Goals as goal

pub returns-in-Err : goal.returns-in-Err
returns-in-Err g c = λ meant gives.
    let text = c.text.ensures in
    placed_fault (section_text c.args.section) c.args.name.now meant c.in-Err.fault c.of_field.result (rw c.in-Err.is at gives) (rw (sym text) c.of_field.ensures.fault)
