use Rattle.game_reader.specs.Links.{linked_item}
use Rattle.game_reader.proofs.prototype_lists.named_item.Goals as goal

pub returns : goal.returns
returns c = c.in_prototype.ensures (linked_item c.args.names.now c.args.item) c.link_item.ensures
