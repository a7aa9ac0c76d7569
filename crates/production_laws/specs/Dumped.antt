-- The launches of the game of a dump.
use Rattle.std.specs.Prelude.{◌≡◌, ◌+◌, ◌<◌, ℕ, List, Some, Ok, length, slice_get}
use Rattle.dump_reader.specs.Draft.{RawGame}
use Rattle.game_types.specs.Lookups.{item_at}
use Rattle.game_types.specs.declared.games.Game.{Game}
use Rattle.game_reader.specs.Games.{HasDraft}
use Rattle.game_reader.specs.Links.{linked}
use Rattle.rocket_launches.specs.Launches.{flights}
use Rattle.rocket_launches.specs.declared.silos.Flight.{Flight}
use Rattle.rocket_launches.specs.declared.silos.Silo.{Silo}
use Rattle.production_laws.specs.Reached.{IsLaunchOf}

-- what the prototypes of a dump give, before launches and fluids by temperature come in
pub record IsOfPrototypes (dump : List ℕ) (base : Game) : Type 0 where
  pub draft : RawGame
  pub read : HasDraft dump draft
  pub linked_is : linked draft ≡ Ok base

-- Behind the recipes of the prototypes stands the launch of this silo with this item. Its parts are those of the silo: the same item, or,
-- where a part is a fluid, one of its number in the game.
pub record HasLaunch (game base : Game) (place : ℕ) (flight : Flight) : Type 0 where
  pub silo : Silo
  pub machine : silo.machine ≡ flight.silo.machine
  pub parts : silo.parts ≡ flight.silo.parts
  pub part : flight.silo.part.0 < length base.items → silo.part ≡ flight.silo.part
  pub launch : IsLaunchOf game (record { 0 = length base.recipes + place }) silo flight.cargo (item_at game flight.cargo)

-- each silo of the prototypes with each item whose launch brings something back
pub record HasLaunches (dump : List ℕ) (game : Game) : Type 0 where
  pub base : Game
  pub of_prototypes : IsOfPrototypes dump base
  pub each : (place : ℕ) (flight : Flight) → slice_get (flights base) place ≡ Some flight → HasLaunch game base place flight
