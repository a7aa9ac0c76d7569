use Rattle.depend_rows.proofs.TouchedNodes.{touched_are, touched_below, touched_once}
use Rattle.depend_rows.proofs.touching.touched_nodes_are_of_the_edits.Goals as goal

pub returns-clause-touched : goal.returns-clause-touched
returns-clause-touched c = touched_are

pub returns-clause-nodes : goal.returns-clause-nodes
returns-clause-nodes c = touched_below

pub returns-clause-once : goal.returns-clause-once
returns-clause-once c = touched_once
