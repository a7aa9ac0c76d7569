use Rattle.catalog_members.specs.Members.{id_value}
use Rattle.catalog_members.proofs.Listing.{WroteSoFar}
use Rattle.catalog_members.proofs.lists.id_values.Given as goal

abbrev pub invariant-loop-node : goal.invariant-loop-node
invariant-loop-node l = WroteSoFar (id_value l.game) l.nodes l.node-index l.list.items
