use Rattle.std.proofs.Common.{◌≢◌, ◌∙◌, ◌<◌, ◌≤◌, All, List, length, ap, sym, subst}
use Rattle.std.specs.Prelude.{AllPairs, IfSome}
use Rattle.plan_base.specs.Shape.{node_count}
use Rattle.plan_base.specs.declared.ids.NodeId.{NodeId}
use Rattle.game_types.specs.Nodes.{shape_of}
use Rattle.depend_rows.specs.Rows.{rows_of}
use Rattle.depend_rows.specs.Touched.{touched_by_all}
use Rattle.depend_rows.proofs.TouchedNodes.{touched_below, touched_once}
use Rattle.milestone_masks.specs.Worlds.{AgreeInWorlds}
use Rattle.planning_state.specs.Books.{AreRowsBut, with_rows}
use Rattle.planning_state.specs.Remembered.{AreMarksBut}
use Rattle.planning_state.proofs.Kept.{agree-but, kept-settled, long-before, marks-but, rows-with, with-fewer, with-nodes, with-once}
use Rattle.planning_state.proofs.SettleLemmas.{work-settled}
use Rattle.planning_state.proofs.held.settle_edits.Goals as goal

pub settle-requires-clause-as_long : goal.settle-requires-clause-as_long
settle-requires-clause-as_long g c = long-before c.requires.before.0 c.args.book.now (g.R.Rows.rows c.args.graph.now) c.requires.before.1.rows_are c.requires.before.2.names

pub settle-requires-clause-nodes : goal.settle-requires-clause-nodes
settle-requires-clause-nodes g c =
    let is = c.as_slice-touched.ensures.value ∙ (c.in_ok-nodes.ensures ∙ ap (λ s. touched_by_all s c.args.edits.now) c.shape-shape.ensures) in
    subst (All (λ (m : NodeId). m.0 < node_count (shape_of c.args.book.now.game))) (sym is) (touched_below (shape_of c.args.book.now.game) c.args.edits.now)

pub settle-requires-clause-others : goal.settle-requires-clause-others
settle-requires-clause-others g c =
    let is = c.as_slice-touched.ensures.value ∙ (c.in_ok-nodes.ensures ∙ ap (λ s. touched_by_all s c.args.edits.now) c.shape-shape.ensures) in
    subst (All (λ (m : NodeId). m.0 < node_count (shape_of c.args.book.now.game))) (sym (c.with_rows-others.ensures ∙ ap (with_rows c.args.edits.now) is))
    (with-nodes (λ (m : NodeId). m.0 < node_count (shape_of c.args.book.now.game)) c.args.edits.now (touched_by_all (shape_of c.args.book.now.game) c.args.edits.now) (touched_below (shape_of c.args.book.now.game) c.args.edits.now))

pub settle-requires-clause-once : goal.settle-requires-clause-once
settle-requires-clause-once g c =
    let is = c.as_slice-touched.ensures.value ∙ (c.in_ok-nodes.ensures ∙ ap (λ s. touched_by_all s c.args.edits.now) c.shape-shape.ensures) in
    subst (AllPairs (λ (m n : NodeId). m.0 ≢ n.0)) (sym (c.with_rows-others.ensures ∙ ap (with_rows c.args.edits.now) is))
    (with-once c.args.edits.now (touched_by_all (shape_of c.args.book.now.game) c.args.edits.now) (touched_once (shape_of c.args.book.now.game) c.args.edits.now))

pub settle-requires-clause-rows : goal.settle-requires-clause-rows
settle-requires-clause-rows g c =
    let is = c.as_slice-touched.ensures.value ∙ (c.in_ok-nodes.ensures ∙ ap (λ s. touched_by_all s c.args.edits.now) c.shape-shape.ensures) in
    subst (λ (nodes : _). AreRowsBut nodes c.args.book.now (g.R.Rows.rows c.args.graph.now)) (sym (c.with_rows-others.ensures ∙ ap (with_rows c.args.edits.now) is))
    (subst (AreRowsBut (with_rows c.args.edits.now (touched_by_all (shape_of c.args.book.now.game) c.args.edits.now)) c.args.book.now) (sym c.requires.before.1.rows_are)
    (rows-with c.requires.before.0 c.args.book.now c.args.edits.now c.requires.before.2))

pub settle-requires-clause-agree : goal.settle-requires-clause-agree
settle-requires-clause-agree g c =
    let is = c.as_slice-touched.ensures.value ∙ (c.in_ok-nodes.ensures ∙ ap (λ s. touched_by_all s c.args.edits.now) c.shape-shape.ensures) in
    subst (λ nodes. AgreeInWorlds (rows_of c.args.book.now.game) c.args.book.now.barred c.args.book.now.granted nodes c.args.worlds.now) (sym is)
    (agree-but c.requires.before.0 c.args.book.now c.args.edits.now c.args.worlds.now c.requires.before.1.sound.book c.requires.sound c.requires.before.1.worlds c.requires.before.2)

pub settle-requires-clause-except : goal.settle-requires-clause-except
settle-requires-clause-except g c =
    let is = c.as_slice-touched.ensures.value ∙ (c.in_ok-nodes.ensures ∙ ap (λ s. touched_by_all s c.args.edits.now) c.shape-shape.ensures) in
    subst (λ (nodes : List NodeId). IfSome c.args.remembered.now.marks (AreMarksBut nodes c.args.book.now)) (sym is)
    (marks-but c.requires.before.0 c.args.book.now c.args.edits.now c.args.remembered.now.marks c.requires.before.1.sound.book c.requires.sound c.requires.before.2 c.requires.before.4.marks)

pub returns-clause-work : goal.returns-clause-work
returns-clause-work g c =
    let is = c.as_slice-touched.ensures.value ∙ (c.in_ok-nodes.ensures ∙ ap (λ s. touched_by_all s c.args.edits.now) c.shape-shape.ensures) in
    work-settled c.settle.result (rows_of c.args.book.now.game) c.with_rows-others.result.now c.as_slice-touched.result.now (touched_by_all (shape_of c.args.book.now.game) c.args.edits.now) c.args.worlds.now c.settle.new.worlds c.args.steps.now c.settle.new.steps is
    (subst (λ (nodes : List NodeId). length nodes ≤ length c.as_slice-touched.result.now) (sym c.with_rows-others.ensures) (with-fewer c.args.edits.now c.as_slice-touched.result.now)) c.settle.ensures.steps

pub returns-clause-kept : goal.returns-clause-kept
returns-clause-kept g c =
    kept-settled c.settle.result c.requires.before.0 c.args.book.now (g.R.Rows.rows c.args.graph.now) (g.R.Rows.rows c.settle.new.graph) c.args.worlds.now c.settle.new.worlds c.requires.before.1 c.requires.before.2.names c.requires.sound
    c.settle.ensures.milestones c.settle.ensures.rows c.settle.ensures.worlds
