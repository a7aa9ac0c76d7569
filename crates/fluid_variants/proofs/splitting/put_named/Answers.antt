use Rattle.std.proofs.Common.{◌∙◌, Err, Some, ap, sym}
use Rattle.plan_base.specs.Shape.{node_count}
use Rattle.game_types.specs.Nodes.{shape_of}
use Rattle.fluid_variants.specs.Records.{all_names}
use Rattle.fluid_variants.specs.Split.{split}
use Rattle.fluid_variants.proofs.SplittingLemmas.{all_split, few_from, one_twice}
use Rattle.fluid_variants.proofs.splitting.put_named.Goals as goal

pub split-requires-clause-names : goal.split-requires-clause-names
split-requires-clause-names c = c.in-All.ensures.1 ∙ c.requires.names ∙ ap (all_names c.args.game.now.fluid_names) c.requires.lists

pub split-requires-clause-few : goal.split-requires-clause-few
split-requires-clause-few c = few_from (node_count (shape_of (split c.args.game.now))) c.requires.few

pub returns-in-Ok-clause-game : goal.returns-in-Ok-clause-game
returns-in-Ok-clause-game c =
    all_split c.args.game.now c.split.new.game c.args.lists.items c.args.names.now c.requires.lists c.requires.names c.requires.free c.requires.few c.in-All.ensures.0 c.in-Ok.ensures

pub returns-in-Twice-clause-fault : goal.returns-in-Twice-clause-fault
returns-in-Twice-clause-fault c = λ memory.
    one_twice c.args.game.now c.args.lists.items c.args.names.now c.name_at-name.result.now c.requires.lists c.requires.names
    c.requires.free c.requires.few (c.in-Twice.ensures.1 ∙ ap Some (sym c.name_at-name.ensures)) ∙ ap Err (sym (c.name_fault.ensures memory))
