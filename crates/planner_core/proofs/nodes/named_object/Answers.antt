use Rattle.planner_core.proofs.Telling.{named_again}
use Rattle.planner_core.proofs.nodes.named_object.Goals as goal

pub returns : goal.returns
returns c =
    named_again c.args.game.now c.shape.result c.args.node c.kind_of-kind.result.0 c.kind_of-kind.result.1 c.name_of.result.now c.in_ok-name.name
    c.shape.ensures c.kind_of-kind.ensures.place c.kind_of-kind.ensures.index c.name_of.ensures.found c.in_ok-name.ensures
