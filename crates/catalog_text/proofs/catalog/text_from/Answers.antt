use Rattle.std.proofs.Common.{◌≡◌, ◌∙◌, ◌++◌, [], ℕ, List, ap, codes, subst, sym, string_bytes}
use Rattle.plan_base.specs.declared.ids.NodeId.{NodeId}
use Rattle.game_types.specs.declared.games.Game.{Game}
use Rattle.planner_core.specs.Lines.{Planned}
use Rattle.catalog_text.specs.Catalog.{WritesBack, WritesFront, list_text, names}
use Rattle.catalog_text.proofs.catalog.text_from.Goals as goal

pub returns-clause-catalog : goal.returns-clause-catalog
returns-clause-catalog g c =
    let s = c.args.planner.now.state in
    let index = c.args.sources.now.index.now in
    let front = string_bytes c.write_front.new.text in
    let middle = string_bytes c.write_milestones.new.text in
    let whole = string_bytes c.write_back.new.text in
    let one = c.in_ok-write_front.ensures.stays in
    record {
      index = index;
      is_index = c.requires.sources.is_index;
      front = front;
      middle = middle;
      writes_front = subst (λ (t : List ℕ). WritesFront s index t front) c.new-text.ensures.bytes c.in_ok-write_front.ensures.written;
      writes_milestones = record {
        written = c.in_ok-write_milestones.ensures
            ∙ (ap (λ (h : Game). (front ++ codes ",\"milestones\":") ++ list_text (names h c.args.sources.now.milestones.now)) (c.game.ensures.game ∙ ap (λ (p : Planned). p.state.book.game) one)
            ∙ ap (λ (ns : List NodeId). (front ++ codes ",\"milestones\":") ++ list_text (names s.book.game ns)) c.requires.sources.milestones_are);
      };
      writes_back = subst (λ (p : Planned). WritesBack p.state index middle whole) one c.in_ok-write_back.ensures.written;
    }
