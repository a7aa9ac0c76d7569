use Rattle.std.proofs.Common.{◌≡◌, length, []}
use Rattle.game_types.specs.declared.games.Game.{Game as AnyGame}
use Rattle.game_tests.proofs.Alone.{alone_sound}
use Rattle.game_tests.proofs.games.game_with.Goals as goal

pub returns-clause-sound : goal.returns-clause-sound
returns-clause-sound c =
    let game : AnyGame = record { items = c.args.items; fluids = c.from_vec.result; recipes = c.args.recipes; sources = c.from_vec-2.result; machines = c.args.machines; techs = c.from_vec-3.result; character = record { crafting = c.from_vec-4.result; mining = c.from_vec-5.result }; item_names = c.args.names.item; fluid_names = c.make.result; recipe_names = c.args.names.recipe; source_names = c.make-2.result; machine_names = c.args.names.machine; tech_names = c.make-3.result; categories = c.make-4.result } in
    let fluids : c.from_vec.result ≡ [] = search in
    let sources : c.from_vec-2.result ≡ [] = search in
    let techs : c.from_vec-3.result ≡ [] = search in
    let fluid_names : length c.make.result ≡ 0 = search in
    let source_names : length c.make-2.result ≡ 0 = search in
    let tech_names : length c.make-3.result ≡ 0 = search in
    alone_sound game fluids sources techs c.requires.one_item c.requires.one_recipe c.requires.one_machine c.requires.item_name c.requires.recipe_name c.requires.machine_name fluid_names source_names tech_names
    (c.requires.items game) (c.requires.recipes game) (c.requires.machines game)
