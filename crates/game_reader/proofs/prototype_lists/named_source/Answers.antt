use Rattle.game_reader.specs.Links.{linked_source}
use Rattle.game_reader.proofs.prototype_lists.named_source.Goals as goal

pub returns : goal.returns
returns c = c.in_prototype.ensures (linked_source c.args.names.now c.args.source) c.link_source.ensures
