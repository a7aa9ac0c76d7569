use Rattle.std.proofs.Common.{◌∙◌, ap}
use Rattle.std.specs.Prelude.{is_some}
use Rattle.game_types.specs.declared.goods.Item.{Item}
use Rattle.table_rows.proofs.NameLemmas.{module_sound}
use Rattle.table_rows.proofs.names.is_module.Goals as goal

pub returns-clause-sound : goal.returns-clause-sound
returns-clause-sound c = module_sound c.args.game.now c.args.good c.is_some.result c.requires (c.is_some.ensures ∙ ap (λ (item : Item). is_some item.«module») c.item.ensures)
