use Rattle.catalog_members.specs.Members.{id_value}
use Rattle.report_json.proofs.Listing.{Wrote}
use Rattle.report_json.proofs.lists.id_values.Given as goal

abbrev pub invariant-loop-node : goal.invariant-loop-node
invariant-loop-node l = Wrote (id_value l.game) l.nodes l.node-index l.list.items
