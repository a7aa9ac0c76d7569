-- What a dump means: its game, or the first fault of reading it.
use Rattle.std.specs.Prelude.{◌≡◌, ℕ, List, [], Result, Ok, Err}
use Rattle.json_text.specs.Kept.{Kept}
use Rattle.json_text.specs.Accepted.{IsAccepted, IsFault}
use Rattle.json_text.specs.declared.fault.JsonFault.{JsonFault}
use Rattle.craft_reader.specs.declared.fault.DumpCode.{DumpCode}
use Rattle.craft_reader.specs.declared.fault.DumpCode.TheVariants as d
use Rattle.craft_reader.specs.declared.fault.DumpFault.{DumpFault}
use Rattle.dump_reader.specs.Draft.{RawGame}
use Rattle.dump_reader.specs.Dump.{◌▷◌, raw_game}
use Rattle.game_types.specs.declared.games.Game.{Game}
use Rattle.game_reader.specs.Keys.{dump_wishes}
use Rattle.rocket_launches.specs.Launches.{with_launches}
use Rattle.fluid_variants.specs.Variants.{with_variants}
use Rattle.game_reader.specs.Links.{linked}

-- what a game with ids in place of names becomes: launches are recipes, and fluids have one temperature each
unfoldable pub finished : Game → Result Game DumpFault
finished game = with_launches game ▷ with_variants

-- what the prototypes of a dump become, with names in place of ids
unfoldable pub resolved : RawGame → Result Game DumpFault
resolved draft = linked draft ▷ finished

-- the game of a tree of JSON, or its first fault: the first pass finds all but names that stand for nothing, the second finds
-- those, and the others come after
unfoldable pub game_of : Kept → Result Game DumpFault
game_of tree = raw_game tree ▷ resolved

-- the dump is accepted JSON, and this is what its tree gives
pub record DumpGives (dump : List ℕ) (given : Result Game DumpFault) : Type 0 where
  pub tree : Kept
  pub accepted : IsAccepted dump_wishes dump tree
  pub given_is : game_of tree ≡ given

abbrev pub HasGame : List ℕ → Game → Type 0
HasGame dump game = DumpGives dump (Ok game)

-- what the first pass leaves of it
pub record HasDraft (dump : List ℕ) (draft : RawGame) : Type 0 where
  pub tree : Kept
  pub accepted : IsAccepted dump_wishes dump tree
  pub draft_is : raw_game tree ≡ Ok draft

-- a fault of JSON has no prototype and no field
abbrev pub json_fault : JsonFault → DumpFault
json_fault fault = record { code = d.Json fault; section = []; name = []; field = [] }

-- the fault by its code: the dump is no accepted JSON, or it is, and its tree has this fault
abbrev pub HasFaultOf : List ℕ → DumpFault → DumpCode → Type 0
HasFaultOf dump fault (d.Json json) = IsFault dump_wishes dump json.code json.at × (fault ≡ json_fault json)
HasFaultOf dump fault code = DumpGives dump (Err fault)

-- the first fault of a dump
abbrev pub HasFault : List ℕ → DumpFault → Type 0
HasFault dump fault = HasFaultOf dump fault fault.code
