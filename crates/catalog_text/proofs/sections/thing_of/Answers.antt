use Rattle.std.proofs.Common.{◌≡◌, ◌∙◌, ◌<◌, ap, refl, subst}
use Rattle.plan_base.specs.Shape.{node_count}
use Rattle.game_types.specs.Nodes.{shape_of}
use Rattle.game_types.specs.declared.games.Game.{Game}
use Rattle.planner_core.specs.Lines.{Planned}
use Rattle.planner_core.specs.Told.{mask_of, places_of}
use Rattle.catalog_things.specs.Nodes.{thing_node}
use Rattle.catalog_text.proofs.sections.thing_of.Goals as goal

pub returns-clause-thing : goal.returns-clause-thing
returns-clause-thing g c = record {
  kind_ = refl;
  number_ = refl;
  node = c.node_of-node.ensures.node ∙ ap (λ (h : Game). thing_node h c.args.kind c.args.number) c.game.ensures.game;
  rank = c.in_ok-rank.ensures.rank c.requires.free (subst (λ (h : Game). c.node_of-node.result.0 < node_count (shape_of h)) c.game.ensures.game c.node_of-node.ensures.within);
  mask = c.in_ok-mask.ensures.places ∙ ap (λ (p : Planned). places_of p.state.milestones (mask_of p.state c.node_of-node.result.0)) c.in_ok-rank.ensures.stays;
}
