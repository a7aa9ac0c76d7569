use Rattle.game_reader.specs.Links.{linked_machine}
use Rattle.game_reader.proofs.prototype_lists.named_machine.Goals as goal

pub returns : goal.returns
returns c = c.in_prototype.ensures (linked_machine c.args.names.now c.args.machine) c.link_machine.ensures
