use Rattle.std.proofs.Common.{◌≡◌, ◌∙◌, ◌++◌, ◌∷◌, [], ℕ, List, ap, subst, string_bytes}
use Rattle.plan_base.specs.Shape.{count_of}
use Rattle.plan_base.specs.declared.shape.Shape.{Shape}
use Rattle.game_types.specs.Nodes.{shape_of}
use Rattle.game_types.specs.declared.games.Game.{Game}
use Rattle.catalog_text.specs.Catalog.{AreTexts}
use Rattle.catalog_text.proofs.Commas.{bracketed}
use Rattle.catalog_text.proofs.sections.write_section.Goals as goal

pub returns-clause-written : goal.returns-clause-written
returns-clause-written g c =
    let things = c.in_ok-write_things.ensures.written in
    let many : c.count_of-count.result ≡ count_of (shape_of c.args.planner.now.state.book.game) c.args.kind =
    c.count_of-count.ensures ∙ (ap (λ (s : Shape). count_of s c.args.kind) c.shape.ensures ∙ ap (λ (h : Game). count_of (shape_of h) c.args.kind) c.game.ensures.game) in
    record {
      texts = things.texts;
      are_texts = subst (λ (n : ℕ). AreTexts c.args.planner.now.state c.args.sources.now.index.now c.args.kind n things.texts) many things.are_texts;
      written =
          bracketed (string_bytes c.args.text.now ++ c.args.head.now) (string_bytes c.push_str-2.new.self) (string_bytes c.write_things.new.text) (string_bytes c.push_str-3.new.self) things.texts
          (c.in_ok-push_str-2.ensures.bytes ∙ ap (λ (t : List ℕ). t ++ 91 ∷ []) c.in_ok-push_str.ensures.bytes)
          things.written
          c.in_ok-push_str-3.ensures.bytes;
    }
