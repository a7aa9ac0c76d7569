use Rattle.std.specs.Prelude.{IsSome}
use Rattle.std.specs.Option.{option_copied}
use Rattle.std.proofs.Common.{◌∙◌, ap, sym, subst}
use Rattle.game_types.specs.declared.goods.Item.{Item}
use Rattle.game_types.specs.declared.goods.Module.{Module}
use Rattle.game_types.specs.Sound.{IsSoundModule}
use Rattle.game_types.specs.Lookups.{item_at, module_at}
use Rattle.game_types.proofs.ModuleLemmas.{module_there, module_sound, module_is}
use Rattle.game_types.proofs.games.Game.module.Goals as goal

pub item-item-requires : goal.item-item-requires
item-item-requires c = (module_there c.args.self.now c.args.good c.requires.there).0

pub unwrap-requires : goal.unwrap-requires
unwrap-requires c = c.as_ref.ensures.variant ∙ subst (λ (item : Item). IsSome item.«module») (sym c.item-item.ensures) (module_there c.args.self.now c.args.good c.requires.there).1

pub returns-clause-value : goal.returns-clause-value
unfolding module_at
returns-clause-value c =
    module_is (item_at c.args.self.now c.args.good).«module» c.unwrap.result.now
    (sym (ap (λ (item : Item). item.«module») c.item-item.ensures) ∙ (sym c.as_ref.ensures.value ∙ ap option_copied c.unwrap.ensures))

pub returns-clause-sound : goal.returns-clause-sound
returns-clause-sound c = subst (λ (m : Module). IsSoundModule c.args.self.now m) (sym (returns-clause-value c)) (module_sound c.args.self.now c.args.good c.requires.sound c.requires.there)
