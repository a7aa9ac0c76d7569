use Rattle.std.proofs.Common.{◌≡◌, ◌∷◌, [], sym, subst, ◌∙◌}
use Rattle.game_types.specs.declared.machinery.Energy.{Energy}
use Rattle.game_types.specs.Sound.{IsSoundEnergy, IsSoundMachine}
use Rattle.game_tests.proofs.Alone.{all_of_one, crafter_sound}
use Rattle.game_tests.proofs.games.machines_with.Goals as goal

pub returns-in-Ok-clause-sound : goal.returns-in-Ok-clause-sound
returns-in-Ok-clause-sound c = λ g.
    let energy : IsSoundEnergy g c.machine.result.energy = subst (λ (energy : Energy). IsSoundEnergy g energy) (sym c.machine.ensures.energy) (c.requires.energy g) in
    let one : c.from_vec.result ≡ c.machine.result ∷ [] = c.from_vec.ensures ∙ c.in-Ok.ensures.items in
    all_of_one (IsSoundMachine g) c.from_vec.result c.machine.result one
    (crafter_sound g c.machine.result c.args.given.now.speed c.args.categories c.machine.ensures.kind c.machine.ensures.slots c.requires.speed energy)
