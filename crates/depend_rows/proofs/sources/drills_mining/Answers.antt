use Rattle.std.proofs.Common.{◌∙◌, ◌≡◌, rules}
use Rattle.std.specs.Prelude.{is_none, not}
use Rattle.depend_index.specs.Goods.{first_machine}
use Rattle.depend_rows.proofs.CraftLemmas.{drills_of_category, no_drills, none_or_some}
use Rattle.depend_rows.proofs.sources.drills_mining.Goals as goal

pub returns-then-not-source : goal.returns-then-not-source
returns-then-not-source c = c.new.ensures.items ∙ no_drills c.args.source.now (first_machine c.args.game.now) c.args.game.now.machines (search rules)

pub returns-in_ok-nodes : goal.returns-in_ok-nodes
returns-in_ok-nodes c =
    let source = c.args.source.now in
    let fluid : is_none source.fluid ≡ not c.is_some-boxed.result = none_or_some source.fluid c.is_some-boxed.result (search rules) in
    c.in_ok-nodes.ensures ∙ c.drills_of-drills.ensures source.category
    ∙ drills_of_category source c.is_some-boxed.result (first_machine c.args.game.now) c.args.game.now.machines (search rules) fluid
