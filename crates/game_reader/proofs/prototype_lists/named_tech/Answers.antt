use Rattle.game_reader.specs.Links.{linked_tech}
use Rattle.game_reader.proofs.prototype_lists.named_tech.Goals as goal

pub returns : goal.returns
returns c = c.in_prototype.ensures (linked_tech c.args.names.now c.args.tech) c.link_tech.ensures
