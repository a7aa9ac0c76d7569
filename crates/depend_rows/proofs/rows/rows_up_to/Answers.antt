use Rattle.std.proofs.Common.{◌∙◌, ◌<◌, ◌≡◌, ap, arith}
use Rattle.plan_base.specs.Shape.{node_count}
use Rattle.game_types.specs.Nodes.{shape_of}
use Rattle.depend_rows.specs.Rows.{row_of, rows_of}
use Rattle.depend_rows.proofs.Ranges.{rows_first, rows_more, rows_last, steps_first, steps_more, steps_last, members_first, members_more, members_past, members_last}
use Rattle.depend_rows.proofs.rows.rows_up_to.Goals as goal

pub loop-node-init : goal.loop-node-init
loop-node-init g c = record {
  rows = rows_first (row_of c.args.book.now.game) (node_count (shape_of c.args.book.now.game)) c.new-rows.result.items c.new-rows.ensures.items;
  steps = steps_first c.args.steps.now;
  later = omega arith;
  members = members_first (row_of c.args.book.now.game) (node_count (shape_of c.args.book.now.game));
  few = omega arith;
}

pub loop-node-preserved : goal.loop-node-preserved
loop-node-preserved g c =
    let game = c.args.book.now.game in
    let within : c.loop-node.node < node_count (shape_of game) = omega (arith, c.loop-node-test.true, c.len-nodes.ensures, ap node_count c.shape.ensures) in
    record {
      rows = rows_more (row_of game) (node_count (shape_of game)) c.loop-node.node c.loop-node.rows.items c.push.new.self.items c.in-Ok.row within c.in-Ok.ensures c.in-Ok-push.ensures.items c.loop-node.invariant.rows;
      steps = steps_more c.args.steps.now c.loop-node.node c.loop-node.steps c.tick.new.self c.tick.ensures.one c.loop-node.invariant.steps;
      later = omega (arith, c.loop-node.invariant.later, c.tick.ensures.later);
      members = members_more (row_of game) (node_count (shape_of game)) c.loop-node.node c.loop-node.members c.in-Some.sum c.in-Ok.row within c.in-Ok.ensures c.in-Some.ensures.0 c.loop-node.invariant.members;
      few = c.in-Some.ensures.1;
    }

pub returns-in-None-clause-rows : goal.returns-in-None-clause-rows
unfolding rows_of
returns-in-None-clause-rows g c =
    let game = c.args.book.now.game in
    let within : c.loop-node.node < node_count (shape_of game) = omega (arith, c.loop-node-test.true, c.len-nodes.ensures, ap node_count c.shape.ensures) in
    λ _. members_past (row_of game) (node_count (shape_of game)) c.loop-node.node c.loop-node.members c.args.limit c.in-Ok.row within c.in-Ok.ensures c.in-None.ensures c.loop-node.invariant.members

pub returns-clause-rows : goal.returns-clause-rows
unfolding rows_of
returns-clause-rows g c =
    let game = c.args.book.now.game in
    let nodes : c.len-nodes.result ≡ node_count (shape_of game) = c.len-nodes.ensures ∙ ap node_count c.shape.ensures in (
      rows_last (row_of game) (node_count (shape_of game)) c.loop-node.node c.loop-node.rows.items (omega (arith, c.loop-node-test.false, nodes)) c.loop-node.invariant.rows,
      members_last (row_of game) (node_count (shape_of game)) c.loop-node.node c.loop-node.members c.args.limit (omega (arith, c.loop-node-test.false, nodes)) c.loop-node.invariant.few c.loop-node.invariant.members,
    )

pub returns-clause-steps : goal.returns-clause-steps
returns-clause-steps g c =
    let game = c.args.book.now.game in
    let nodes : c.len-nodes.result ≡ node_count (shape_of game) = c.len-nodes.ensures ∙ ap node_count c.shape.ensures in
    let end : c.loop-node.node ≡ node_count (shape_of game) = omega (arith, c.loop-node-test.false, c.loop-node.auto.node-end, nodes) in
    steps_last c.args.steps.now c.loop-node.node c.loop-node.steps (node_count (shape_of game)) end (omega arith) c.loop-node.invariant.steps
