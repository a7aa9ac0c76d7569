use Rattle.catalog_text.proofs.Known.{within_nodes}
use Rattle.catalog_text.proofs.sections.node_of.Goals as goal

pub returns-clause-within : goal.returns-clause-within
returns-clause-within c = within_nodes c.args.game.now c.args.kind c.args.number c.thing_node.result c.requires.number c.thing_node.ensures
