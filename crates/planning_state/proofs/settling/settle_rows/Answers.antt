use Rattle.std.proofs.Common.{◌≡◌, arith, length}
use Rattle.std.proofs.lemmas.Bool.Decides.{nat_tests}
use Rattle.planning_state.proofs.SettleLemmas.{nodes-below, nodes-differ, rows-below, rows-same, rows-settled}
use Rattle.planning_state.proofs.settling.settle_rows.Goals as goal

pub replace-requires-clause-nodes : goal.replace-requires-clause-nodes
replace-requires-clause-nodes g c = nodes-below c.args.book.now c.args.nodes.now c.in_ok-changes.changes.items _ c.requires.as_long c.in_ok-changes.ensures.rows c.requires.nodes

pub replace-requires-clause-differ : goal.replace-requires-clause-differ
replace-requires-clause-differ g c = nodes-differ c.args.book.now c.args.nodes.now c.in_ok-changes.changes.items c.in_ok-changes.ensures.rows c.requires.once

pub replace-requires-clause-members : goal.replace-requires-clause-members
replace-requires-clause-members g c = rows-below c.args.book.now c.args.nodes.now c.in_ok-changes.changes.items _ c.requires.sound c.requires.as_long c.in_ok-changes.ensures.rows c.requires.nodes

pub returns-clause-rows : goal.returns-clause-rows
returns-clause-rows g c = rows-settled c.args.book.now c.args.nodes.now c.in_ok-changes.changes.items (g.R.Rows.rows c.args.graph.now) (g.R.Rows.rows c.replace.new.self) c.requires.as_long c.in_ok-changes.ensures.rows c.requires.rows c.in_ok-replace.ensures.put

pub returns-then-is_empty-clause-rows : goal.returns-then-is_empty-clause-rows
returns-then-is_empty-clause-rows g c =
    let none : length c.args.nodes.now ≡ 0 = grind (arith, nat_tests, c.is_empty.ensures, c.if-is_empty.true) in
    rows-same c.args.book.now c.args.nodes.now (g.R.Rows.rows c.args.graph.now) none c.requires.as_long c.requires.rows
